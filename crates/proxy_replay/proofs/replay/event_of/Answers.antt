use Rattle.std.proofs.lemmas.Result.{IfErr-weaker}
use Rattle.proxy_replay.proofs.replay.event_of.Goals as goal

pub returns-in-Ok-clause-fault : goal.returns-in-Ok-clause-fault
returns-in-Ok-clause-fault c =
    let same = c.in-Ok.ensures.cases.0 in
    IfErr-weaker c.line_event.result _ _ (λ e fault bad event reported. fault bad event (rw same reported.1))
    c.line_event.ensures.fault
