use Rattle.std.proofs.Common.{[], ◌∷◌, ◌++◌}
use Rattle.proto_wire.specs.Fields.{len}
use Rattle.proto_wire.specs.Shortest.{field_of}
use Rattle.xds_wire.proofs.WriteLemmas.{adds_more, each_more}
use Rattle.check_request.specs.Answers.{OptionWritten}
use Rattle.check_request.specs.View.{set_view}
use Rattle.check_request.proofs.answer.put_options.Goals as goal

pub loop-header-preserved : goal.loop-header-preserved
loop-header-preserved c =
    let so_far = c.loop-header.invariant in
    let bytes = c.in_ok-bytes.bytes.items in
    let added = rw c.deref.ensures.value at c.in_ok-message.ensures.written in (
      so_far.0 ++ field_of 2 (len bytes) ∷ [],
      each_more OptionWritten set_view 2 c.loop-header.header-index c.args.set.now _ so_far.0
          bytes c.loop-header-test.true so_far.1 c.in_ok-bytes.ensures,
      adds_more c.args.writer.now c.loop-header.writer c.message.new.self so_far.0
          (field_of 2 (len bytes) ∷ []) so_far.2 added,
    )
