use Rattle.std.proofs.Common.{take}
use Rattle.cel_tree.specs.Message.{tree_depth}
use Rattle.cel_tree.specs.TypeEntries.{IsTypeEntry}
use Rattle.cel_tree.specs.View.{types_view}
use Rattle.cel_read.specs.private.Named.{SomeValues, ids_view}
use Rattle.cel_read.proofs.maps.read_types.Given as goal

abbrev pub invariant-loop-entry : goal.invariant-loop-entry
invariant-loop-entry l =
    SomeValues (IsTypeEntry tree_depth) (ids_view l.named) (ids_view (take l.entry-index l.named)) (types_view l.types)
