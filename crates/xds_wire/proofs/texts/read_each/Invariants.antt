use Rattle.std.proofs.Common.{◌≡◌, take}
use Rattle.std.specs.Prelude.{IsUtf8}
use Rattle.std.specs.List.{AllByRecursion}
use Rattle.proto_wire.specs.Merge.{parts_view}
use Rattle.xds_wire.specs.View.{texts_view}
use Rattle.xds_wire.proofs.texts.read_each.Given as goal

abbrev pub invariant-loop-part : goal.invariant-loop-part
invariant-loop-part l =
    (texts_view l.texts.items ≡ parts_view (take l.part-index l.parts))
    × AllByRecursion IsUtf8 (texts_view l.texts.items)
