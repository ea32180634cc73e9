use Rattle.http_front.proofs.Agreeing.{heads_agree}
use Rattle.http_front.proofs.laws.heads_unique.Goals as goal

pub returns : goal.returns
returns c = heads_agree
