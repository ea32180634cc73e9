use Rattle.std.proofs.lemmas.Result.{err_from_is_err_and}
use Rattle.proxy_replay.proofs.configuration.filter_of.Goals as goal

pub returns-in_err-steps-clause-fault : goal.returns-in_err-steps-clause-fault
returns-in_err-steps-clause-fault c =
    let p = err_from_is_err_and c.from_residual-in_err-steps.result c.from_residual-in_err-steps.ensures.1 in
    rw p.1 (λ bad f reported. c.in_err-steps.ensures.fault _ reported.budget)

pub returns-in_err-visits-clause-fault : goal.returns-in_err-visits-clause-fault
returns-in_err-visits-clause-fault c =
    let p = err_from_is_err_and c.from_residual-in_err-visits.result c.from_residual-in_err-visits.ensures.1 in
    rw p.1 (λ bad f reported. c.in_err-visits.ensures.fault _ reported.visits)
