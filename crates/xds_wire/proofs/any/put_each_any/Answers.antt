use Rattle.std.proofs.Common.{[], ◌∷◌, ◌++◌}
use Rattle.proto_wire.specs.Fields.{len}
use Rattle.proto_wire.specs.Shortest.{field_of}
use Rattle.xds_wire.specs.View.{any_view}
use Rattle.xds_wire.specs.Written.{AnyWritten}
use Rattle.xds_wire.proofs.WriteLemmas.{each_more, adds_more}
use Rattle.xds_wire.proofs.any.put_each_any.Goals as goal

pub loop-message-preserved : goal.loop-message-preserved
loop-message-preserved c =
    let so_far = c.loop-message.invariant in
    let bytes = c.in_ok-bytes.bytes.items in
    let number = c.args.number in
    let added = rw c.deref.ensures.value at c.in_ok-message.ensures.written in (
      so_far.0 ++ field_of number (len bytes) ∷ [],
      each_more AnyWritten any_view number c.loop-message.message-index c.args.messages.now _ so_far.0
          bytes c.loop-message-test.true so_far.1 c.in_ok-bytes.ensures,
      adds_more c.args.writer.now c.loop-message.writer c.message.new.self so_far.0
          (field_of number (len bytes) ∷ []) so_far.2 added,
    )
