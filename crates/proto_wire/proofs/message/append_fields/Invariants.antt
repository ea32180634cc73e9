use Rattle.std.proofs.Common.{◌≡◌, ◌++◌, List, length, map}
use Rattle.proto_wire.specs.Fields.{Wire, After, field_view}
use Rattle.proto_wire.proofs.message.append_fields.Given as goal

abbrev pub invariant-loop-field : goal.invariant-loop-field
invariant-loop-field l =
    (fs : List Wire) × After l.bytes fs l.reader
    × (map field_view l.fields.items ≡ map field_view l.initial.fields.items ++ fs)

abbrev pub decreases-loop-field : goal.decreases-loop-field
decreases-loop-field l = length l.reader
