use Rattle.std.proofs.Common.{arith, refl}
use Rattle.std.proofs.lemmas.List.{length-map}
use Rattle.http_front.specs.Asks.{AskFault}
use Rattle.http_front.specs.Rules.{lowered}
use Rattle.http_front.proofs.read.refusal_of.Goals as goal

pub returns-in-Some-clause-fault : goal.returns-in-Some-clause-fault
returns-in-Some-clause-fault c facts = AskFault.breaks (rw c.in-Some.is at c.fault.ensures.fault)

pub returns-then-exceeds-clause-fault : goal.returns-then-exceeds-clause-fault
returns-then-exceeds-clause-fault c facts =
    AskFault.outside
    (λ within. absurd (omega (arith, within.count, c.if-exceeds.ensures, length-map c.args.head.now.fields lowered)))
    refl
