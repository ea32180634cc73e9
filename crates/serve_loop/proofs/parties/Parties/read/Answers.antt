-- Bytes were read and given to the service, or none were read.
use Rattle.std.proofs.Common.{◌<◌, ap, ◌∙◌, refl, arith, take}
use Rattle.serve_loop.specs.History.{received}
use Rattle.serve_loop.proofs.Histories.{belong_still, belong_took, kept_still, kept_received, goes_still, goes_took}
use Rattle.serve_loop.proofs.parties.Parties.read.Goals as goal

pub returns-else-count-eq0-clause-belongs : goal.returns-else-count-eq0-clause-belongs
returns-else-count-eq0-clause-belongs g c =
    let some : 0 < c.in-Ok.count = omega (arith, c.if-count-eq0.false) in
    belong_took _ _ _ _ _ _ (received c.args.stream (take c.in-Ok.count c.read.new.room)) c.requires
    (ap g.N.Network.wire c.deliver.ensures.network ∙ c.in-Ok.ensures.received.1 some) c.deliver.ensures.took c.deliver.ensures.seen

pub returns-else-count-eq0-clause-kept : goal.returns-else-count-eq0-clause-kept
returns-else-count-eq0-clause-kept g c = λ places is_up is_ending k.
    let some : 0 < c.in-Ok.count = omega (arith, c.if-count-eq0.false) in
    kept_received _ _ places is_up is_ending c.args.stream (take c.in-Ok.count c.read.new.room)
    (ap g.N.Network.wire c.deliver.ensures.network ∙ c.in-Ok.ensures.received.1 some) k

pub returns-then-count-eq0-clause-belongs : goal.returns-then-count-eq0-clause-belongs
returns-then-count-eq0-clause-belongs g c = belong_still _ _ _ _ _ _ (c.in-Ok.ensures.received.0 c.if-count-eq0.true) refl refl

pub returns-then-count-eq0-clause-kept : goal.returns-then-count-eq0-clause-kept
returns-then-count-eq0-clause-kept g c = λ places is_up is_ending k.
    kept_still _ _ places is_up is_ending (c.in-Ok.ensures.received.0 c.if-count-eq0.true) k

pub returns-then-most-eq0-clause-belongs : goal.returns-then-most-eq0-clause-belongs
returns-then-most-eq0-clause-belongs g c = λ b. b

pub returns-then-most-eq0-clause-kept : goal.returns-then-most-eq0-clause-kept
returns-then-most-eq0-clause-kept g c = λ places is_up is_ending k. k

pub returns-in-Err-clause-belongs : goal.returns-in-Err-clause-belongs
returns-in-Err-clause-belongs g c = belong_still _ _ _ _ _ _ (c.in-Err.ensures.received) refl refl

pub returns-in-Err-clause-kept : goal.returns-in-Err-clause-kept
returns-in-Err-clause-kept g c = λ places is_up is_ending k. kept_still _ _ places is_up is_ending (c.in-Err.ensures.received) k

pub returns-else-count-eq0-clause-goes_on : goal.returns-else-count-eq0-clause-goes_on
returns-else-count-eq0-clause-goes_on g c = goes_took _ _ _ _ _ _ (ap g.N.Network.setup c.deliver.ensures.network ∙ c.in-Ok.ensures.setup)
    c.deliver.ensures.setup _ c.deliver.ensures.took

pub returns-then-count-eq0-clause-goes_on : goal.returns-then-count-eq0-clause-goes_on
returns-then-count-eq0-clause-goes_on g c = goes_still _ _ _ _ _ _ c.in-Ok.ensures.setup refl refl

pub returns-then-most-eq0-clause-goes_on : goal.returns-then-most-eq0-clause-goes_on
returns-then-most-eq0-clause-goes_on g c = goes_still _ _ _ _ _ _ refl refl refl

pub returns-in-Err-clause-goes_on : goal.returns-in-Err-clause-goes_on
returns-in-Err-clause-goes_on g c = goes_still _ _ _ _ _ _ c.in-Err.ensures.setup refl refl
