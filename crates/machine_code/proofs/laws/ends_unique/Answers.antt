use Rattle.machine_code.proofs.Chains.{one_end_lem}
use Rattle.machine_code.proofs.laws.ends_unique.Goals as goal

pub returns : goal.returns
returns c = one_end_lem
