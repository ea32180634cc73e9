-- The entries of map literals that values of the code mean.
use Rattle.std.specs.Prelude.{List, map}
use Rattle.proto_wire.specs.Merge.{parts_view}
use Rattle.cel_tree.specs.Nodes as nodes
use Rattle.cel_read.specs.declared.parsed.EntryNode.{EntryNode}

-- an entry
abbrev pub entry_node_view : EntryNode → nodes.EntryNode
entry_node_view e = record { id = e.id; key = parts_view e.key.items; value = parts_view e.value.items }

-- entries in order
abbrev pub entry_nodes_view : List EntryNode → List nodes.EntryNode
entry_nodes_view es = map entry_node_view es
