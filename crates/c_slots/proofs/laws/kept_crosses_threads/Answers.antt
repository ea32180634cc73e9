use Rattle.c_slots.proofs.KeptCrossing.{chain_send, made_send, opened_send}
use Rattle.c_slots.proofs.laws.kept_crosses_threads.Goals as goal

pub returns : goal.returns
returns c = record { connection = opened_send; request = made_send; chain = chain_send }
