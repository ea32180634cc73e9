-- The first bytes of those that waited were sent, or none.
use Rattle.std.proofs.Common.{refl}
use Rattle.serve_loop.proofs.Histories.{belong_still, belong_gave_first, kept_still, kept_sent, goes_still, goes_gave}
use Rattle.serve_loop.proofs.parties.Parties.write.Goals as goal

pub returns-in-Ok-clause-belongs : goal.returns-in-Ok-clause-belongs
returns-in-Ok-clause-belongs g c = belong_gave_first _ _ _ _ _ _ c.args.stream c.in-Ok.count _ c.unsent.ensures c.requires
    c.in-Ok.ensures.sent c.sent.ensures.turns refl

pub returns-in-Ok-clause-kept : goal.returns-in-Ok-clause-kept
returns-in-Ok-clause-kept g c = λ places is_up is_ending k. kept_sent _ _ places is_up is_ending c.args.stream _ c.in-Ok.ensures.sent k

pub returns-in-Err-clause-belongs : goal.returns-in-Err-clause-belongs
returns-in-Err-clause-belongs g c = belong_still _ _ _ _ _ _ (c.in-Err.ensures.sent) refl refl

pub returns-in-Err-clause-kept : goal.returns-in-Err-clause-kept
returns-in-Err-clause-kept g c = λ places is_up is_ending k. kept_still _ _ places is_up is_ending (c.in-Err.ensures.sent) k

pub returns-in-Ok-clause-goes_on : goal.returns-in-Ok-clause-goes_on
returns-in-Ok-clause-goes_on g c = goes_gave _ _ _ _ _ _ c.in-Ok.ensures.setup c.sent.ensures.setup _ _ c.sent.ensures.turns

pub returns-in-Err-clause-goes_on : goal.returns-in-Err-clause-goes_on
returns-in-Err-clause-goes_on g c = goes_still _ _ _ _ _ _ c.in-Err.ensures.setup refl refl
