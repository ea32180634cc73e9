use Rattle.std.proofs.Common.{refl}
use Rattle.std.proofs.lemmas.List.{map-append}
use Rattle.proto_wire.specs.Values.{len_in}
use Rattle.proto_wire.proofs.ValueLemmas.{picked_some, picked_none}
use Rattle.proto_wire.proofs.values.payloads_of.Goals as goal
use Rattle.proto_wire.proofs.values.payloads_of.Goals.{in-Some+in_ok-add_payload, in_default}

pub loop-field-preserved : goal.loop-field-preserved
loop-field-preserved c =
    let fields = c.args.fields.now in
    let i = c.loop-field.field-index in
    let within = c.loop-field-test.true in
    elim c.match-len_of.branch [
      | in-Some+in_ok-add_payload w ↦
          let bytes = w.in-Some.bytes.now in
          let more = picked_some len_in c.args.number fields i _ bytes within w.in-Some.ensures in
          rw (more, w.parts-is, w.in_ok-add_payload.ensures, map-append, c.loop-field.invariant) refl
      | in_default w ↦
          let same = picked_none len_in c.args.number fields i _ within w.in_default.ensures in
          rw (same, w.parts-is) c.loop-field.invariant
    ]
