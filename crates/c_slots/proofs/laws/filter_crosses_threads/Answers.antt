use Rattle.c_slots.proofs.Crossing.{filter_send, filter_sync}
use Rattle.c_slots.proofs.laws.filter_crosses_threads.Goals as goal

pub returns : goal.returns
returns c = record { moves = filter_send; is_shared = filter_sync }
