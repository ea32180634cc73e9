use Rattle.std.proofs.Common.{◌≡◌, List, length}
use Rattle.std.specs.Prelude.{unwrap_or}
use Rattle.proto_wire.specs.Fields.{After, Wire}
use Rattle.proto_wire.specs.Values.{last_of, varints}
use Rattle.cel_tree.specs.Nodes.{node_field}
use Rattle.cel_read.proofs.node_id.last_id.Given as goal

abbrev pub invariant-loop-field : goal.invariant-loop-field
invariant-loop-field l =
    (fs : List Wire) × After l.bytes fs l.reader × (l.last ≡ unwrap_or (last_of (varints node_field.id fs)) l.before)

abbrev pub decreases-loop-field : goal.decreases-loop-field
decreases-loop-field l = length l.reader
