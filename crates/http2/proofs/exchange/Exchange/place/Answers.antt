use Rattle.std.proofs.Common.{sym}
use Rattle.std.proofs.lemmas.Result.{IfOk-weaker}
use Rattle.http2.specs.Exchange.{placed}
use Rattle.http2.proofs.exchange.Exchange.place.Goals as goal

pub returns-clause-takes : goal.returns-clause-takes
returns-clause-takes c =
    IfOk-weaker c.say.result _ _ (λ news says. placed c.requires.sound (sym c.if-is_misplaced.ensures) says) c.say.ensures.says
