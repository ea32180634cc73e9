use Rattle.std.proofs.Common.{take}
use Rattle.cel_tree.specs.References.{IsReference}
use Rattle.cel_tree.specs.View.{references_view}
use Rattle.cel_read.specs.private.Named.{SomeValues, ids_view}
use Rattle.cel_read.proofs.maps.read_references.Given as goal

abbrev pub invariant-loop-entry : goal.invariant-loop-entry
invariant-loop-entry l =
    SomeValues IsReference (ids_view l.named) (ids_view (take l.entry-index l.named)) (references_view l.references)
