use Rattle.std.proofs.Common.{[], ◌∷◌, ap, append-nil, sym, ◌∙◌}
use Rattle.attributes.specs.Attributes.{url_path_of}
use Rattle.rbac_match.specs.Text.{text_holds}
use Rattle.rbac_match.proofs.Texts.{path_before}
use Rattle.rbac_match.proofs.laws.path_ends_before_a_query.Goals as goal

pub returns-clause-whole : goal.returns-clause-whole
returns-clause-whole c =
    λ test request none. ap (text_holds test)
    (ap url_path_of (sym (append-nil request.target)) ∙ path_before request.target [] none tt)

pub returns-clause-cut : goal.returns-clause-cut
returns-clause-cut c =
    λ test request path rest mark is none begins. ap (text_holds test)
    (ap url_path_of is ∙ path_before path (mark ∷ rest) none begins)
