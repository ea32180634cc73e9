-- Where no facts agree with a member, the member is present, and has the fault.
use Rattle.std.proofs.lemmas.Result.{err_from_is_err_and}
use Rattle.serde_json.specs.Find.{get}
use Rattle.serde_json.specs.View.{view}
use Rattle.program_texts.specs.Facts.{name_of}
use Rattle.program_texts.specs.declared.fact.Fact.{Fact}
use Rattle.program_texts.proofs.FactFaults.{present}
use Rattle.program_texts.proofs.given.given_facts.Goals as goal

pub returns-in_err-text_at-clause-fault : goal.returns-in_err-text_at-clause-fault
returns-in_err-text_at-clause-fault c =
    let p = err_from_is_err_and c.from_residual-in_err-text_at.result c.from_residual-in_err-text_at.ensures.1 in
    rw (p.1, p.2, c.in_err-text_at.ensures.fault.0)
    (present Fact.SourceAddress (get (name_of Fact.SourceAddress) (view c.args.value.now)) (λ f reported. c.in_err-text_at.ensures.fault.1 _ reported))

pub returns-in_err-port_at-clause-fault : goal.returns-in_err-port_at-clause-fault
returns-in_err-port_at-clause-fault c =
    let p = err_from_is_err_and c.from_residual-in_err-port_at.result c.from_residual-in_err-port_at.ensures.1 in
    rw (p.1, p.2, c.in_err-port_at.ensures.fault.0)
    (present Fact.SourcePort (get (name_of Fact.SourcePort) (view c.args.value.now)) (λ f reported. c.in_err-port_at.ensures.fault.1 _ reported))

pub returns-in_err-text_at-2-clause-fault : goal.returns-in_err-text_at-2-clause-fault
returns-in_err-text_at-2-clause-fault c =
    let p = err_from_is_err_and c.from_residual-in_err-text_at-2.result c.from_residual-in_err-text_at-2.ensures.1 in
    rw (p.1, p.2, c.in_err-text_at-2.ensures.fault.0)
    (present Fact.DestinationAddress (get (name_of Fact.DestinationAddress) (view c.args.value.now)) (λ f reported. c.in_err-text_at-2.ensures.fault.1 _ reported))

pub returns-in_err-port_at-2-clause-fault : goal.returns-in_err-port_at-2-clause-fault
returns-in_err-port_at-2-clause-fault c =
    let p = err_from_is_err_and c.from_residual-in_err-port_at-2.result c.from_residual-in_err-port_at-2.ensures.1 in
    rw (p.1, p.2, c.in_err-port_at-2.ensures.fault.0)
    (present Fact.DestinationPort (get (name_of Fact.DestinationPort) (view c.args.value.now)) (λ f reported. c.in_err-port_at-2.ensures.fault.1 _ reported))

pub returns-in_err-answer_at-clause-fault : goal.returns-in_err-answer_at-clause-fault
returns-in_err-answer_at-clause-fault c =
    let p = err_from_is_err_and c.from_residual-in_err-answer_at.result c.from_residual-in_err-answer_at.ensures.1 in
    rw (p.1, p.2, c.in_err-answer_at.ensures.fault.0)
    (present Fact.ConnectionMtls (get (name_of Fact.ConnectionMtls) (view c.args.value.now)) (λ f reported. c.in_err-answer_at.ensures.fault.1 _ reported))

pub returns-in_err-number_at-clause-fault : goal.returns-in_err-number_at-clause-fault
returns-in_err-number_at-clause-fault c =
    let p = err_from_is_err_and c.from_residual-in_err-number_at.result c.from_residual-in_err-number_at.ensures.1 in
    rw (p.1, p.2, c.in_err-number_at.ensures.fault.0)
    (present Fact.ConnectionId (get (name_of Fact.ConnectionId) (view c.args.value.now)) (λ f reported. c.in_err-number_at.ensures.fault.1 _ reported))

pub returns-in_err-name_at-clause-fault : goal.returns-in_err-name_at-clause-fault
returns-in_err-name_at-clause-fault c =
    let p = err_from_is_err_and c.from_residual-in_err-name_at.result c.from_residual-in_err-name_at.ensures.1 in
    rw (p.1, p.2, c.in_err-name_at.ensures.fault.0)
    (present Fact.ConnectionRequestedServerName (get (name_of Fact.ConnectionRequestedServerName) (view c.args.value.now)) (λ f reported. c.in_err-name_at.ensures.fault.1 _ reported))

pub returns-in_err-text_at-3-clause-fault : goal.returns-in_err-text_at-3-clause-fault
returns-in_err-text_at-3-clause-fault c =
    let p = err_from_is_err_and c.from_residual-in_err-text_at-3.result c.from_residual-in_err-text_at-3.ensures.1 in
    rw (p.1, p.2, c.in_err-text_at-3.ensures.fault.0)
    (present Fact.ConnectionTlsVersion (get (name_of Fact.ConnectionTlsVersion) (view c.args.value.now)) (λ f reported. c.in_err-text_at-3.ensures.fault.1 _ reported))

pub returns-in_err-text_at-4-clause-fault : goal.returns-in_err-text_at-4-clause-fault
returns-in_err-text_at-4-clause-fault c =
    let p = err_from_is_err_and c.from_residual-in_err-text_at-4.result c.from_residual-in_err-text_at-4.ensures.1 in
    rw (p.1, p.2, c.in_err-text_at-4.ensures.fault.0)
    (present Fact.ConnectionSubjectPeerCertificate (get (name_of Fact.ConnectionSubjectPeerCertificate) (view c.args.value.now)) (λ f reported. c.in_err-text_at-4.ensures.fault.1 _ reported))

pub returns-in_err-text_at-5-clause-fault : goal.returns-in_err-text_at-5-clause-fault
returns-in_err-text_at-5-clause-fault c =
    let p = err_from_is_err_and c.from_residual-in_err-text_at-5.result c.from_residual-in_err-text_at-5.ensures.1 in
    rw (p.1, p.2, c.in_err-text_at-5.ensures.fault.0)
    (present Fact.ConnectionDnsSanPeerCertificate (get (name_of Fact.ConnectionDnsSanPeerCertificate) (view c.args.value.now)) (λ f reported. c.in_err-text_at-5.ensures.fault.1 _ reported))

pub returns-in_err-text_at-6-clause-fault : goal.returns-in_err-text_at-6-clause-fault
returns-in_err-text_at-6-clause-fault c =
    let p = err_from_is_err_and c.from_residual-in_err-text_at-6.result c.from_residual-in_err-text_at-6.ensures.1 in
    rw (p.1, p.2, c.in_err-text_at-6.ensures.fault.0)
    (present Fact.ConnectionUriSanPeerCertificate (get (name_of Fact.ConnectionUriSanPeerCertificate) (view c.args.value.now)) (λ f reported. c.in_err-text_at-6.ensures.fault.1 _ reported))

pub returns-in_err-address_at-clause-fault : goal.returns-in_err-address_at-clause-fault
returns-in_err-address_at-clause-fault c =
    let p = err_from_is_err_and c.from_residual-in_err-address_at.result c.from_residual-in_err-address_at.ensures.1 in
    rw (p.1, p.2, c.in_err-address_at.ensures.fault.0)
    (present Fact.DirectRemoteIp (get (name_of Fact.DirectRemoteIp) (view c.args.value.now)) (λ f reported. c.in_err-address_at.ensures.fault.1 _ reported))

pub returns-in_err-address_at-2-clause-fault : goal.returns-in_err-address_at-2-clause-fault
returns-in_err-address_at-2-clause-fault c =
    let p = err_from_is_err_and c.from_residual-in_err-address_at-2.result c.from_residual-in_err-address_at-2.ensures.1 in
    rw (p.1, p.2, c.in_err-address_at-2.ensures.fault.0)
    (present Fact.RemoteIp (get (name_of Fact.RemoteIp) (view c.args.value.now)) (λ f reported. c.in_err-address_at-2.ensures.fault.1 _ reported))

pub returns-in_err-address_at-3-clause-fault : goal.returns-in_err-address_at-3-clause-fault
returns-in_err-address_at-3-clause-fault c =
    let p = err_from_is_err_and c.from_residual-in_err-address_at-3.result c.from_residual-in_err-address_at-3.ensures.1 in
    rw (p.1, p.2, c.in_err-address_at-3.ensures.fault.0)
    (present Fact.DestinationIp (get (name_of Fact.DestinationIp) (view c.args.value.now)) (λ f reported. c.in_err-address_at-3.ensures.fault.1 _ reported))

pub returns-in_err-scheme_at-clause-fault : goal.returns-in_err-scheme_at-clause-fault
returns-in_err-scheme_at-clause-fault c =
    let p = err_from_is_err_and c.from_residual-in_err-scheme_at.result c.from_residual-in_err-scheme_at.ensures.1 in
    rw (p.1, p.2, c.in_err-scheme_at.ensures.fault.0)
    (present Fact.RequestScheme (get (name_of Fact.RequestScheme) (view c.args.value.now)) (λ f reported. c.in_err-scheme_at.ensures.fault.1 _ reported))
