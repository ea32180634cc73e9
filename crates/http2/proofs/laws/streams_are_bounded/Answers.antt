use Rattle.http2.specs.Served.{answered}
use Rattle.http2.proofs.Bounded.{comes_bounded}
use Rattle.http2.proofs.Ended.{comes_known}
use Rattle.http2.proofs.laws.streams_are_bounded.Goals as goal

pub returns : goal.returns
returns c = λ most trail e calls goes. (
  comes_bounded most goes.0 e calls (answered goes.0) goes.2,
  (comes_known most goes.0 e calls (answered goes.0) goes.2).0,
)
