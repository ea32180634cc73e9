-- The fact whose text is refused is above the limit.
use Rattle.std.proofs.lemmas.Result.{err_from_is_err_and}
use Rattle.program_texts.specs.declared.fact.Fact.{Fact}
use Rattle.program_texts.proofs.short.require_limits.Goals as goal

pub returns-in_err-require_short-clause-fault : goal.returns-in_err-require_short-clause-fault
returns-in_err-require_short-clause-fault c =
    let p = err_from_is_err_and c.from_residual.result c.from_residual.ensures.1 in
    rw (p.1, p.2) (Fact.SourceAddress, c.in_err-require_short.ensures.fault)

pub returns-in_err-require_short-2-clause-fault : goal.returns-in_err-require_short-2-clause-fault
returns-in_err-require_short-2-clause-fault c =
    let p = err_from_is_err_and c.from_residual-in_err-require_short-2.result c.from_residual-in_err-require_short-2.ensures.1 in
    rw (p.1, p.2) (Fact.DestinationAddress, c.in_err-require_short-2.ensures.fault)

pub returns-in_err-require_short-3-clause-fault : goal.returns-in_err-require_short-3-clause-fault
returns-in_err-require_short-3-clause-fault c =
    let p = err_from_is_err_and c.from_residual-in_err-require_short-3.result c.from_residual-in_err-require_short-3.ensures.1 in
    rw (p.1, p.2) (Fact.ConnectionRequestedServerName, c.in_err-require_short-3.ensures.fault)

pub returns-in_err-require_short-4-clause-fault : goal.returns-in_err-require_short-4-clause-fault
returns-in_err-require_short-4-clause-fault c =
    let p = err_from_is_err_and c.from_residual-in_err-require_short-4.result c.from_residual-in_err-require_short-4.ensures.1 in
    rw (p.1, p.2) (Fact.ConnectionTlsVersion, c.in_err-require_short-4.ensures.fault)

pub returns-in_err-require_short-5-clause-fault : goal.returns-in_err-require_short-5-clause-fault
returns-in_err-require_short-5-clause-fault c =
    let p = err_from_is_err_and c.from_residual-in_err-require_short-5.result c.from_residual-in_err-require_short-5.ensures.1 in
    rw (p.1, p.2) (Fact.ConnectionSubjectPeerCertificate, c.in_err-require_short-5.ensures.fault)

pub returns-in_err-require_short-6-clause-fault : goal.returns-in_err-require_short-6-clause-fault
returns-in_err-require_short-6-clause-fault c =
    let p = err_from_is_err_and c.from_residual-in_err-require_short-6.result c.from_residual-in_err-require_short-6.ensures.1 in
    rw (p.1, p.2) (Fact.ConnectionDnsSanPeerCertificate, c.in_err-require_short-6.ensures.fault)

pub returns-in_err-require_short-7-clause-fault : goal.returns-in_err-require_short-7-clause-fault
returns-in_err-require_short-7-clause-fault c =
    let p = err_from_is_err_and c.from_residual-in_err-require_short-7.result c.from_residual-in_err-require_short-7.ensures.1 in
    rw (p.1, p.2) (Fact.ConnectionUriSanPeerCertificate, c.in_err-require_short-7.ensures.fault)
