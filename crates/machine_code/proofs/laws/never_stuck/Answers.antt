use Rattle.machine_code.proofs.Sound.{never_stuck_lem}
use Rattle.machine_code.proofs.laws.never_stuck.Goals as goal

pub returns : goal.returns
returns c = never_stuck_lem
