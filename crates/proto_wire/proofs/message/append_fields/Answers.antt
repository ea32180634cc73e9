use Rattle.std.proofs.Common.{◌≡◌, Ok, List, [], ◌∷◌, ◌++◌, map, ap, ◌∙◌, inr}
use Rattle.std.proofs.lemmas.List.{map-append, append_assoc}
use Rattle.std.proofs.lemmas.Result.{err_from_is_err_and}
use Rattle.proto_wire.specs.Fields.{Wire, Broken, field_view}
use Rattle.proto_wire.specs.declared.field.Field.{Field}
use Rattle.proto_wire.proofs.Unique.{after_push, after_breaks_later, fields_disjoint}
use Rattle.proto_wire.proofs.message.append_fields.Goals as goal

pub returns-in_err-field-clause-fault : goal.returns-in_err-field-clause-fault
returns-in_err-field-clause-fault c =
    let exit = c.from_residual in
    let so_far = c.loop-field.invariant in
    let fault = c.in_err-field.ensures.fault in
    let broken : Broken c.args.bytes.now so_far.0 c.in_err-field.field-0.0 = record {
      rest = c.loop-field.reader;
      after = so_far.1;
      more = fault.0;
      fails = fault.1;
    } in
    let p = err_from_is_err_and exit.result exit.ensures.1 in
    rw (p.1) (inr ((so_far.0, c.in_err-field.field-0.0, broken), p.2))

pub returns-in_err-add_field-clause-at_once : goal.returns-in_err-add_field-clause-at_once
returns-in_err-add_field-clause-at_once c breaks =
    let so_far = c.loop-field.invariant in
    let next = rw c.in-Some.is at c.in_ok-field.ensures.field in
    absurd (after_breaks_later c.args.bytes.now so_far.0 c.loop-field.reader _ _ so_far.1 next breaks)

pub returns-clause-at_once : goal.returns-clause-at_once
returns-clause-at_once c (e, broken) =
    let so_far = c.loop-field.invariant in
    let end : c.loop-field.reader ≡ [] =
    c.in_ok-field.ensures.none.0 (ap Ok c.in_default.is) in
    absurd (fields_disjoint c.args.bytes.now so_far.0 [] e (rw end at so_far.1) broken)

pub loop-field-preserved : goal.loop-field-preserved
loop-field-preserved c =
    let so_far = c.loop-field.invariant in
    let bytes = c.args.bytes.now in
    let f = field_view c.in-Some.field in
    let old = map field_view c.args.fields.now.items in
    let next = rw c.in-Some.is at c.in_ok-field.ensures.field in
    let pushed = ap (λ (fields : List Field). map field_view fields) c.in_ok-add_field.ensures in
    let whole = map-append field_view c.loop-field.fields.items (c.in-Some.field ∷ []) in
    let read = ap (λ (fs : List Wire). fs ++ f ∷ []) so_far.2 in (
      so_far.0 ++ f ∷ [],
      after_push bytes so_far.0 c.loop-field.reader f c.next.new.self so_far.1 next,
      pushed ∙ whole ∙ read ∙ append_assoc old so_far.0 (f ∷ []),
    )
