use Rattle.std.proofs.Common.{◌≡◌, true, subst, sym}
use Rattle.rbac_match.specs.Text.{is_substring}
use Rattle.rbac_match.proofs.Texts.{substring_split, split_substring}
use Rattle.rbac_match.proofs.laws.contained_has_both.Goals as goal

pub returns : goal.returns
returns c = λ part bytes. (
  substring_split bytes part,
  λ some. subst (λ l. is_substring part l ≡ true) (sym some.2) (split_substring some.0 part some.1),
)
