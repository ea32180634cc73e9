use Rattle.std.proofs.Common.{◌∙◌, sym}
use Rattle.proto_wire.proofs.OneofLemmas.{member_some, member_none}
use Rattle.proto_wire.proofs.oneof.member_run.Goals as goal
use Rattle.proto_wire.proofs.oneof.member_run.Goals.{then-is_known+in_ok-push_member, else-is_known}

pub loop-field-preserved : goal.loop-field-preserved
loop-field-preserved c =
    let fields = c.args.fields.now in
    let i = c.loop-field.field-index in
    let within = c.loop-field-test.true in
    elim c.if-is_known.branch [
      | then-is_known+in_ok-push_member w ↦
          let known = sym c.is_known.ensures ∙ w.if-is_known.true in
          let more = member_some c.args.keys.now fields i _ within known in
          rw (more, w.run-is, ← c.loop-field.invariant) w.in_ok-push_member.ensures
      | else-is_known w ↦
          let unknown = sym c.is_known.ensures ∙ w.if-is_known.false in
          let same = member_none c.args.keys.now fields i _ within unknown in
          rw (same, w.run-is) c.loop-field.invariant
    ]
