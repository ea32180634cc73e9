-- A connection was closed.
use Rattle.std.proofs.Common.{ap, ◌∙◌, false}
use Rattle.std.proofs.lemmas.List.{length-set}
use Rattle.serve_loop.specs.History.{closed}
use Rattle.serve_loop.proofs.Histories.{belong_took, kept_closed, goes_took}
use Rattle.serve_loop.proofs.parties.Parties.close.Goals as goal

pub returns-clause-belongs : goal.returns-clause-belongs
returns-clause-belongs g c = belong_took _ _ _ _ _ _ (closed _) c.requires.open
    (ap g.N.Network.wire c.deliver.ensures.network ∙ c.close.ensures.closed) c.deliver.ensures.took c.deliver.ensures.seen

pub returns-clause-kept : goal.returns-clause-kept
returns-clause-kept g c = λ is_up is_ending k. rw c.put_place.ensures (kept_closed _ _ _ is_up is_ending c.args.k
    c.requires.within (ap g.N.Network.wire c.deliver.ensures.network ∙ c.close.ensures.closed) k)

pub returns-clause-goes_on : goal.returns-clause-goes_on
returns-clause-goes_on g c = goes_took _ _ _ _ _ _ (ap g.N.Network.setup c.deliver.ensures.network ∙ c.close.ensures.setup)
    c.deliver.ensures.setup _ c.deliver.ensures.took

pub returns-clause-count : goal.returns-clause-count
returns-clause-count g c = rw c.put_place.ensures (length-set _ c.args.k false)
