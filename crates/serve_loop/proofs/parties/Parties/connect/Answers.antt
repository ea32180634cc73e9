-- The stream of updates was connected, or not.
use Rattle.std.proofs.Common.{ap, ◌∙◌}
use Rattle.serve_loop.specs.History.{connected}
use Rattle.serve_loop.proofs.Histories.{belong_still, belong_took, kept_still, kept_connected, goes_still, goes_took}
use Rattle.serve_loop.proofs.parties.Parties.connect.Goals as goal

pub returns-in-Ok-clause-belongs : goal.returns-in-Ok-clause-belongs
returns-in-Ok-clause-belongs g c = belong_took _ _ _ _ _ _ connected c.requires
    (ap g.N.Network.wire c.deliver.ensures.network ∙ c.in-Ok.ensures.connected) c.deliver.ensures.took c.deliver.ensures.seen

pub returns-in-Ok-clause-kept : goal.returns-in-Ok-clause-kept
returns-in-Ok-clause-kept g c = λ places is_ending k. kept_connected _ _ places _ is_ending
    (ap g.N.Network.wire c.deliver.ensures.network ∙ c.in-Ok.ensures.connected) k

pub returns-in-Err-clause-belongs : goal.returns-in-Err-clause-belongs
returns-in-Err-clause-belongs g c = belong_still _ _ _ _ _ _ (ap g.N.Network.wire c.failed.ensures.network ∙ c.in-Err.ensures.connected)
    (ap g.S.Service.turns c.failed.ensures.service) c.failed.ensures.seen

pub returns-in-Err-clause-kept : goal.returns-in-Err-clause-kept
returns-in-Err-clause-kept g c = λ places is_ending k. kept_still _ _ places _ is_ending
    (ap g.N.Network.wire c.failed.ensures.network ∙ c.in-Err.ensures.connected) k

pub returns-in-Ok-clause-goes_on : goal.returns-in-Ok-clause-goes_on
returns-in-Ok-clause-goes_on g c = goes_took _ _ _ _ _ _ (ap g.N.Network.setup c.deliver.ensures.network ∙ c.in-Ok.ensures.setup)
    c.deliver.ensures.setup _ c.deliver.ensures.took

pub returns-in-Err-clause-goes_on : goal.returns-in-Err-clause-goes_on
returns-in-Err-clause-goes_on g c = goes_still _ _ _ _ _ _
    (ap g.N.Network.setup c.failed.ensures.network ∙ c.in-Err.ensures.setup) (ap g.S.Service.setup c.failed.ensures.service)
    (ap g.S.Service.turns c.failed.ensures.service)
