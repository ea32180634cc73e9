use Rattle.std.proofs.Common.{◌∙◌}
use Rattle.cel_value.proofs.Same.{chars_same}
use Rattle.cel_check.proofs.CheckSteps.{empty_same}
use Rattle.cel_check.proofs.checker.entries.is_name.Goals as goal

pub returns-in-None : goal.returns-in-None
returns-in-None c =
    rw c.in-None.is (empty_same c.args.name.now c.utf8.name c.is_empty.result c.is_empty.ensures)

pub returns-in-Some : goal.returns-in-Some
returns-in-Some c =
    rw (c.in-Some.is, ← c.as_str.ensures.value)
    (c.eq.ensures ∙ chars_same c.as_str.result.now c.args.name.now c.as_str.utf8 c.utf8.name)
