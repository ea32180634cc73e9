use Rattle.machine_code.proofs.Sound.{result_typed_lem}
use Rattle.machine_code.proofs.laws.results_are_typed.Goals as goal

pub returns : goal.returns
returns c = result_typed_lem
