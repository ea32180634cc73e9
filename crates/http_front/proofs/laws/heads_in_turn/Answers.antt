use Rattle.http_front.proofs.InTurn.{turns}
use Rattle.http_front.proofs.laws.heads_in_turn.Goals as goal

pub returns : goal.returns
returns c = turns
