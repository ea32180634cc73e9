use Rattle.std.proofs.Common.{◌∙◌}
use Rattle.rbac_match.proofs.Substrings.{found_substring}
use Rattle.rbac_match.proofs.text.contains.Goals as goal

pub returns : goal.returns
returns c = c.is_some.ensures ∙ found_substring c.args.text.now c.args.part.now c.find.result c.find.ensures
