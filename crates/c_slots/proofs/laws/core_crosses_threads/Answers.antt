use Rattle.c_slots.proofs.CoreCrossing.{core_send}
use Rattle.c_slots.proofs.laws.core_crosses_threads.Goals as goal

pub returns : goal.returns
returns c = core_send
