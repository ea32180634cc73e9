use Rattle.std.proofs.Common.{◌++◌, sym, ap, ◌∙◌}
use Rattle.std.proofs.lemmas.List.{take_all}
use Rattle.std.specs.Prelude.{unwrap_or}
use Rattle.cel_tree.specs.Nodes.{node_field}
use Rattle.proto_wire.specs.Merge.{parts_view}
use Rattle.proto_wire.specs.Values.{last_of, varints}
use Rattle.cel_read.specs.Places.{AreWholeOf}
use Rattle.cel_read.proofs.Ids.{last_more, whole_at}
use Rattle.cel_read.proofs.node_id.id_of.Goals as goal

pub loop-part-preserved : goal.loop-part-preserved
loop-part-preserved c =
    let so_far = c.loop-part.invariant in
    let own = c.last_id-last.ensures in (
      so_far.0 ++ own.0,
      whole_at c.loop-part.part-index c.args.parts.now _ so_far.0 own.0 c.loop-part-test.true so_far.1 own.1,
      own.2
          ∙ (ap (unwrap_or (last_of (varints node_field.id own.0))) so_far.2
          ∙ sym (last_more node_field.id so_far.0 own.0 0)),
    )

pub returns : goal.returns
returns c =
    let so_far = c.loop-part.invariant in
    let all : AreWholeOf (parts_view c.args.parts.now) so_far.0 =
    rw (take_all c.loop-part.part-index c.args.parts.now c.loop-part-test.false) at so_far.1 in
    (so_far.0, all, so_far.2)
