use Rattle.std.proofs.Common.{take}
use Rattle.std.specs.List.{AllZip}
use Rattle.proto_wire.specs.Merge.{parts_view}
use Rattle.cel_tree.specs.Nodes.{IsMapEntry}
use Rattle.cel_read.specs.private.EntryViews.{entry_nodes_view}
use Rattle.cel_read.proofs.literals.read_entries.Given as goal

abbrev pub invariant-loop-payload : goal.invariant-loop-payload
invariant-loop-payload l = AllZip IsMapEntry (parts_view (take l.payload-index l.payloads)) (entry_nodes_view l.entries.items)
