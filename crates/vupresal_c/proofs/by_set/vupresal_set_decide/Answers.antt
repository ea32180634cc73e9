use Rattle.vupresal_c.specs.Handles.{filters_in, request_in}
use Rattle.vupresal_c.proofs.Trying.{set_decision_is}
use Rattle.vupresal_c.proofs.by_set.vupresal_set_decide.Goals as goal

pub returns-in-Ok-clause-found : goal.returns-in-Ok-clause-found
returns-in-Ok-clause-found c = λ _. rw c.of.ensures
    (set_decision_is (filters_in c.args.set.now) (request_in c.args.made.now) c.in-Ok.decider c.in-Ok.ensures.found)
