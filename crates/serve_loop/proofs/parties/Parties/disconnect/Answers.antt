-- The stream of updates was closed.
use Rattle.std.proofs.Common.{ap, ◌∙◌}
use Rattle.serve_loop.specs.History.{closed}
use Rattle.serve_loop.proofs.Histories.{belong_took, kept_disconnected, goes_took}
use Rattle.serve_loop.proofs.parties.Parties.disconnect.Goals as goal

pub returns-clause-belongs : goal.returns-clause-belongs
returns-clause-belongs g c = belong_took _ _ _ _ _ _ (closed _) c.requires
    (ap g.N.Network.wire c.deliver.ensures.network ∙ c.close.ensures.closed) c.deliver.ensures.took c.deliver.ensures.seen

pub returns-clause-kept : goal.returns-clause-kept
returns-clause-kept g c = λ places is_ending k. kept_disconnected _ _ places _ is_ending
    (ap g.N.Network.wire c.deliver.ensures.network ∙ c.close.ensures.closed) k

pub returns-clause-goes_on : goal.returns-clause-goes_on
returns-clause-goes_on g c = goes_took _ _ _ _ _ _ (ap g.N.Network.setup c.deliver.ensures.network ∙ c.close.ensures.setup)
    c.deliver.ensures.setup _ c.deliver.ensures.took
