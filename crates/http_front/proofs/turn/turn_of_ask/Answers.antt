use Rattle.http_front.proofs.Turning.{good_lengths}
use Rattle.http_front.proofs.turn.turn_of_ask.Goals as goal

pub body-requires : goal.body-requires
body-requires c = good_lengths c.args.head.now (rw c.in-Judge.is at c.requires.ask)
