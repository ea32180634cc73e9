use Rattle.rbac_match.proofs.Places.{has_fault}
use Rattle.rbac_match.proofs.laws.outer_part_has_the_fault.Goals as goal

pub returns : goal.returns
returns c = has_fault
