use Rattle.cel_read.proofs.PlaceLaws.{checked_fails, expr_fails}
use Rattle.cel_read.proofs.laws.fault_at_a_place_is_a_fault.Goals as goal

pub returns-clause-checked : goal.returns-clause-checked
returns-clause-checked c = checked_fails

pub returns-clause-expr : goal.returns-clause-expr
returns-clause-expr c = expr_fails
