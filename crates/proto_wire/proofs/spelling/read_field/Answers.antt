use Rattle.std.proofs.Common.{◌/◌, arith, refl}
use Rattle.std.proofs.lemmas.Result.{err_from_is_err_and}
use Rattle.proto_wire.specs.Fields.{IsFieldNumber, bad_number, bad_payload, payload_view}
use Rattle.proto_wire.proofs.FieldLemmas.{field_starts}
use Rattle.proto_wire.proofs.spelling.read_field.Goals as goal
use Rattle.proto_wire.proofs.spelling.read_field.Goals.{then-number-eq0-via-then-number-eq0, then-number-eq0-via-else-number-eq0+then-number-gt-GREATEST_NUMBER}

pub returns-then-number-eq0-clause-fault : goal.returns-then-number-eq0-clause-fault
returns-then-number-eq0-clause-fault c =
    let read = c.in_ok-tag in
    let bad : IsFieldNumber (read.tag / 8) → ⊥ = λ k. elim c.then-number-eq0.branch [
      | then-number-eq0-via-then-number-eq0 w ↦ omega (arith, w.if-number-eq0.true, k.0)
      | then-number-eq0-via-else-number-eq0+then-number-gt-GREATEST_NUMBER w ↦
          omega (arith, w.if-number-gt-GREATEST_NUMBER.true, k.1)
    ] in
    bad_number read.tag read.behind.now read.ensures.found bad refl

pub returns-in_err-payload-clause-fault : goal.returns-in_err-payload-clause-fault
returns-in_err-payload-clause-fault c =
    let exit = c.from_residual-in_err-payload in
    let p = err_from_is_err_and exit.result exit.ensures.1 in
    let fails = c.in_err-payload.ensures.fault in
    let read = c.in_ok-tag in
    let numbered : IsFieldNumber (read.tag / 8) = (omega arith, omega arith) in
    rw (p.1, p.2) (bad_payload read.tag read.behind.now read.ensures.found numbered fails)

pub returns-clause-found : goal.returns-clause-found
returns-clause-found c =
    let read = c.in_ok-tag in
    let numbered : IsFieldNumber (read.tag / 8) = (omega arith, omega arith) in
    let bytes = c.args.bytes.now in
    let tag = read.ensures.found in
    let payload = c.in_ok-payload in
    let p = payload_view payload.payload in
    let rest = payload.rest.now in
    field_starts bytes read.tag read.behind.now p rest tag numbered payload.ensures.found
