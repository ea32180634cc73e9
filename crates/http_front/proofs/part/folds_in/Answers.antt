use Rattle.http_front.proofs.Stopping.{folds_known, folds_on}
use Rattle.http_front.proofs.part.folds_in.Goals as goal

pub returns-in-Some : goal.returns-in-Some
returns-in-Some c =
    folds_known _ c.loop-head.head.now c.in-len1-up.len_at_least c.loop-head.invariant c.in-Some.folds c.in-Some.ensures.known

pub loop-head-preserved : goal.loop-head-preserved
loop-head-preserved c =
    folds_on _ c.loop-head.head.now c.in-len1-up.len_at_least c.loop-head.invariant c.in_default-folds_at.ensures.later
