-- A connection was accepted, or none.
use Rattle.std.proofs.Common.{ap, ◌∙◌, true}
use Rattle.std.proofs.lemmas.List.{length-set}
use Rattle.serve_loop.specs.History.{accepted}
use Rattle.serve_loop.proofs.Histories.{belong_still, belong_took, kept_still, kept_accepted, goes_still, goes_took}
use Rattle.serve_loop.proofs.parties.Parties.accept.Goals as goal

pub returns-in-Ok-clause-belongs : goal.returns-in-Ok-clause-belongs
returns-in-Ok-clause-belongs g c = belong_took _ _ _ _ _ _ (accepted c.args.k c.in-Ok.facts) c.requires.closed
    (ap g.N.Network.wire c.deliver.ensures.network ∙ c.in-Ok.ensures.accepted) c.deliver.ensures.took c.deliver.ensures.seen

pub returns-in-Ok-clause-kept : goal.returns-in-Ok-clause-kept
returns-in-Ok-clause-kept g c = λ is_up is_ending k. rw c.put_place.ensures (kept_accepted _ _ _ is_up is_ending c.args.k c.in-Ok.facts
    c.requires.within (ap g.N.Network.wire c.deliver.ensures.network ∙ c.in-Ok.ensures.accepted) k)

pub returns-in-Err-clause-belongs : goal.returns-in-Err-clause-belongs
returns-in-Err-clause-belongs g c = belong_still _ _ _ _ _ _ (ap g.N.Network.wire c.failed.ensures.network ∙ c.in-Err.ensures.accepted)
    (ap g.S.Service.turns c.failed.ensures.service) c.failed.ensures.seen

pub returns-in-Err-clause-kept : goal.returns-in-Err-clause-kept
returns-in-Err-clause-kept g c = λ is_up is_ending k. kept_still _ _ _ is_up is_ending
    (ap g.N.Network.wire c.failed.ensures.network ∙ c.in-Err.ensures.accepted) k

pub returns-in-Ok-clause-goes_on : goal.returns-in-Ok-clause-goes_on
returns-in-Ok-clause-goes_on g c = goes_took _ _ _ _ _ _ (ap g.N.Network.setup c.deliver.ensures.network ∙ c.in-Ok.ensures.setup)
    c.deliver.ensures.setup _ c.deliver.ensures.took

pub returns-in-Err-clause-goes_on : goal.returns-in-Err-clause-goes_on
returns-in-Err-clause-goes_on g c = goes_still _ _ _ _ _ _
    (ap g.N.Network.setup c.failed.ensures.network ∙ c.in-Err.ensures.setup) (ap g.S.Service.setup c.failed.ensures.service)
    (ap g.S.Service.turns c.failed.ensures.service)

pub returns-in-Ok-clause-count : goal.returns-in-Ok-clause-count
returns-in-Ok-clause-count g c = rw c.put_place.ensures (length-set _ c.args.k true)
