use Rattle.std.proofs.Common.{refl, take, ap, ◌∙◌}
use Rattle.rbac_match.specs.Causes.{causes}
use Rattle.rbac_match.specs.Formula.{or_of}
use Rattle.rbac_match.specs.Tokens.{decode}
use Rattle.rbac_match.proofs.CauseLists.{from_start}
use Rattle.rbac_match.proofs.causes.rule_causes.Goals as goal

pub returns : goal.returns
returns c =
    from_start _ c.args.limit _ c.new-found.result.items c.joined_causes.new.found.items _ c.new-found.ensures.items refl c.in_ok-joined_causes.ensures
    ∙ ap (λ ts. take c.args.limit (causes c.args.request.now (or_of (decode ts)))) c.parts.ensures
