-- The server was told to end, or nothing happened.
use Rattle.std.proofs.Common.{ap, ◌∙◌, refl}
use Rattle.serve_loop.specs.History.{drain}
use Rattle.serve_loop.proofs.Histories.{belong_still, belong_took, kept_still, kept_drain, waited_on, waited_told, goes_still, goes_took}
use Rattle.serve_loop.proofs.parties.Parties.wait.Goals as goal

pub returns-else-not-waited-clause-belongs : goal.returns-else-not-waited-clause-belongs
returns-else-not-waited-clause-belongs g c =
    let told = waited_told _ _ c.in-Ok.waited.drains c.if-not-waited.false (rw c.in-Ok.is at c.wait.ensures.told) in
    belong_took _ _ _ _ _ _ drain tt (ap g.N.Network.wire c.deliver.ensures.network ∙ told) c.deliver.ensures.took c.deliver.ensures.seen

pub returns-else-not-waited-clause-kept : goal.returns-else-not-waited-clause-kept
returns-else-not-waited-clause-kept g c = λ places is_up k.
    let told = waited_told _ _ c.in-Ok.waited.drains c.if-not-waited.false (rw c.in-Ok.is at c.wait.ensures.told) in
    kept_drain _ _ places is_up _ (ap g.N.Network.wire c.deliver.ensures.network ∙ told) k

pub returns-then-not-waited-clause-belongs : goal.returns-then-not-waited-clause-belongs
returns-then-not-waited-clause-belongs g c =
    belong_still _ _ _ _ _ _ (waited_on _ _ c.in-Ok.waited.drains c.if-not-waited.true (rw c.in-Ok.is at c.wait.ensures.told)) refl refl

pub returns-then-not-waited-clause-kept : goal.returns-then-not-waited-clause-kept
returns-then-not-waited-clause-kept g c = λ places is_up k.
    kept_still _ _ places is_up _ (waited_on _ _ c.in-Ok.waited.drains c.if-not-waited.true (rw c.in-Ok.is at c.wait.ensures.told)) k

pub returns-in-Err-clause-belongs : goal.returns-in-Err-clause-belongs
returns-in-Err-clause-belongs g c = belong_still _ _ _ _ _ _ (c.in-Err.ensures.told) refl refl

pub returns-in-Err-clause-kept : goal.returns-in-Err-clause-kept
returns-in-Err-clause-kept g c = λ places is_up k. kept_still _ _ places is_up _ (c.in-Err.ensures.told) k

pub returns-else-not-waited-clause-goes_on : goal.returns-else-not-waited-clause-goes_on
returns-else-not-waited-clause-goes_on g c = goes_took _ _ _ _ _ _ (ap g.N.Network.setup c.deliver.ensures.network ∙ c.wait.ensures.setup)
    c.deliver.ensures.setup _ c.deliver.ensures.took

pub returns-then-not-waited-clause-goes_on : goal.returns-then-not-waited-clause-goes_on
returns-then-not-waited-clause-goes_on g c = goes_still _ _ _ _ _ _ c.wait.ensures.setup refl refl

pub returns-in-Err-clause-goes_on : goal.returns-in-Err-clause-goes_on
returns-in-Err-clause-goes_on g c = goes_still _ _ _ _ _ _ c.wait.ensures.setup refl refl
