use Rattle.std.proofs.Common.{map}
use Rattle.proto_wire.specs.Fields.{field_view}
use Rattle.check_request.specs.Faults.{HttpFault, bad_scheme_text}
use Rattle.check_request.proofs.Exits.{exit_plain}
use Rattle.check_request.proofs.check.read_scheme.Goals as goal

pub returns-in_err-scheme-clause-fault : goal.returns-in_err-scheme-clause-fault
returns-in_err-scheme-clause-fault c =
    let bad = c.in_err-scheme.ensures.fault in
    exit_plain (λ f. HttpFault (map field_view c.args.http.now) f.part f.refusal) c.from_residual.result _
    c.from_residual.ensures.1 (bad_scheme_text bad.0 bad.1)
