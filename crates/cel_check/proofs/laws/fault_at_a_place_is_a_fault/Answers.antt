use Rattle.cel_check.proofs.PlaceLaws.{check_fails}
use Rattle.cel_check.proofs.laws.fault_at_a_place_is_a_fault.Goals as goal

pub returns : goal.returns
returns c = check_fails
