use Rattle.std.proofs.Common.{◌≢◌, ◌∙◌, [], Err, ap, refl, arith}
use Rattle.std.proofs.lemmas.Grind.{common_steps}
use Rattle.std.proofs.lemmas.Result.{err_from_is_err_and}
use Rattle.proto_wire.specs.Fields.{StartsField, FailsField, field_view}
use Rattle.proto_wire.proofs.FieldLemmas.{field_unique, field_disjoint, field_fault_unique}
use Rattle.proto_wire.proofs.reader.Reader.next.Goals as goal

pub returns-in_err-field-clause-fault : goal.returns-in_err-field-clause-fault
returns-in_err-field-clause-fault c =
    let p = err_from_is_err_and c.from_residual.result c.from_residual.ensures.1 in
    let some : c.args.self.now ≢ [] = rw (← c.self.view_is) (grind (arith, common_steps)) in
    let fails : FailsField c.args.self.now c.in_err-field.field-0.0 =
    rw (← c.self.view_is) c.in_err-field.ensures.fault in
    rw (p.1, p.2) (some, fails, refl)

pub returns-in_err-field-clause-reads : goal.returns-in_err-field-clause-reads
returns-in_err-field-clause-reads c f rest starts =
    let fails : FailsField c.args.self.now c.in_err-field.field-0.0 =
    rw (← c.self.view_is) c.in_err-field.ensures.fault in
    absurd (field_disjoint c.args.self.now f rest c.in_err-field.field-0.0 starts fails)

pub returns-in_err-field-clause-fails : goal.returns-in_err-field-clause-fails
returns-in_err-field-clause-fails c e some fails =
    let p = err_from_is_err_and c.from_residual.result c.from_residual.ensures.1 in
    let own : FailsField c.args.self.now c.in_err-field.field-0.0 =
    rw (← c.self.view_is) c.in_err-field.ensures.fault in
    let same = field_fault_unique c.args.self.now c.in_err-field.field-0.0 e own fails in
    p.1 ∙ ap Err (p.2 ∙ same)

pub returns-clause-reads : goal.returns-clause-reads
returns-clause-reads c f rest starts =
    let own : StartsField c.args.self.now (field_view c.in_ok-field.field) c.in_ok-field.rest.now =
    rw (← c.self.view_is) c.in_ok-field.ensures.found in
    field_unique c.args.self.now (field_view c.in_ok-field.field) f c.in_ok-field.rest.now rest own starts

pub returns-clause-fails : goal.returns-clause-fails
returns-clause-fails c e some fails =
    let own : StartsField c.args.self.now (field_view c.in_ok-field.field) c.in_ok-field.rest.now =
    rw (← c.self.view_is) c.in_ok-field.ensures.found in
    let f = field_view c.in_ok-field.field in
    absurd (field_disjoint c.args.self.now f c.in_ok-field.rest.now e own fails)
