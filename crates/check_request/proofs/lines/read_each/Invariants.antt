use Rattle.std.proofs.Common.{map, take}
use Rattle.std.specs.List.{AllZip}
use Rattle.http_front.specs.Parts.{field_view as line_view}
use Rattle.proto_wire.specs.Merge.{parts_view}
use Rattle.check_request.specs.Lines.{IsHeader}
use Rattle.check_request.proofs.lines.read_each.Given as goal

abbrev pub invariant-loop-index : goal.invariant-loop-index
invariant-loop-index l =
    AllZip IsHeader (parts_view (take l.index l.parts)) (map line_view l.lines.items)
