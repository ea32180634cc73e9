use Rattle.http_front.proofs.InTurn.{late_in_target}
use Rattle.http_front.proofs.laws.late_faults_end_in_targets.Goals as goal

pub returns : goal.returns
returns c = late_in_target
