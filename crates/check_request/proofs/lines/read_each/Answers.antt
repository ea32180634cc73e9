use Rattle.std.proofs.Common.{map}
use Rattle.http_front.specs.Parts.{field_view as line_view}
use Rattle.proto_wire.specs.Fields.{field_view}
use Rattle.check_request.specs.Lines.{IsHeader}
use Rattle.xds_wire.proofs.Each.{zip_more}
use Rattle.check_request.proofs.lines.read_each.Goals as goal

pub loop-index-preserved : goal.loop-index-preserved
loop-index-preserved c =
    zip_more IsHeader line_view c.args.parts.now c.loop-index.index _ c.loop-index.lines.items _ c.line_of.result
    c.loop-index-test.true c.loop-index.invariant
    (map field_view c.in_ok-fields.fields.items, c.in_ok-fields.ensures.found, rw c.deref.ensures at c.line_of.ensures)
    c.in_ok-push.ensures.items
