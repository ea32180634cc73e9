use Rattle.std.proofs.lemmas.Result.{err_from_is_err_and}
use Rattle.proxy_replay.proofs.configuration.limit_at.Goals as goal

pub returns-in_err-number_or-clause-fault : goal.returns-in_err-number_or-clause-fault
returns-in_err-number_or-clause-fault c =
    let p = err_from_is_err_and c.from_residual.result c.from_residual.ensures.1 in
    rw p.1 (rw (c.get-greatest.ensures.value, c.largest.ensures) at c.in_err-number_or.ensures.fault)
