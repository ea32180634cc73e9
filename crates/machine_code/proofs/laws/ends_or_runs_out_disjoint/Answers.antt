use Rattle.machine_code.proofs.Chains.{never_both_lem}
use Rattle.machine_code.proofs.laws.ends_or_runs_out_disjoint.Goals as goal

pub returns : goal.returns
returns c = never_both_lem
