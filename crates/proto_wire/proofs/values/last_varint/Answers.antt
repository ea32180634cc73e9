use Rattle.std.proofs.Common.{sym, ◌∙◌}
use Rattle.proto_wire.specs.Values.{varint_in}
use Rattle.proto_wire.proofs.ValueLemmas.{last_of_push, picked_some, picked_none}
use Rattle.proto_wire.proofs.values.last_varint.Goals as goal
use Rattle.proto_wire.proofs.values.last_varint.Goals.{in-Some, in_default}

pub loop-field-preserved : goal.loop-field-preserved
loop-field-preserved c =
    let fields = c.args.fields.now in
    let i = c.loop-field.field-index in
    let within = c.loop-field-test.true in
    elim c.match-varint_of.branch [
      | in-Some w ↦
          let value = w.in-Some.value in
          let e = sym w.in-Some.ensures in
          let more = picked_some varint_in c.args.number fields i _ value within e in
          rw (more, last_of_push) w.last-is
      | in_default w ↦
          let e = sym w.in_default.ensures in
          let same = picked_none varint_in c.args.number fields i _ within e in
          rw same (w.last-is ∙ c.loop-field.invariant)
    ]
