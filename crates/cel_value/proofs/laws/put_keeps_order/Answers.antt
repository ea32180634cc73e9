use Rattle.cel_value.proofs.Places.{put_ascending}
use Rattle.cel_value.proofs.laws.put_keeps_order.Goals as goal

pub returns : goal.returns
returns c = put_ascending
