use Rattle.std.proofs.Common.{◌∙◌, sym, refl}
use Rattle.proto_wire.proofs.ValueLemmas.{last_of_push}
use Rattle.proto_wire.proofs.OneofLemmas.{known_some, known_none}
use Rattle.proto_wire.proofs.oneof.last_member.Goals as goal
use Rattle.proto_wire.proofs.oneof.last_member.Goals.{then-is_known, else-is_known}

pub loop-candidate-preserved : goal.loop-candidate-preserved
loop-candidate-preserved c =
    let fields = c.args.fields.now in
    let i = c.loop-candidate.candidate-index in
    let within = c.loop-candidate-test.true in
    elim c.if-is_known.branch [
      | then-is_known w ↦
          let known = sym c.is_known.ensures ∙ w.if-is_known.true in
          let more = known_some c.args.keys.now fields i _ within known in
          rw (w.last-is, more, last_of_push) refl
      | else-is_known w ↦
          let unknown = sym c.is_known.ensures ∙ w.if-is_known.false in
          let same = known_none c.args.keys.now fields i _ within unknown in
          rw (w.last-is, same) c.loop-candidate.invariant
    ]
