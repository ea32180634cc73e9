-- The messages of single types and nodes that values of the code mean.
use Rattle.std.specs.Prelude.{ℤ}
use Rattle.proto_wire.specs.Merge.{parts_view}
use Rattle.cel_value.specs.Texts.{text_view}
use Rattle.cel_tree.specs.Nodes as nodes
use Rattle.cel_tree.specs.Nodes.{constant_node, ident_node, select_node, call_node, list_node, map_node, loop_node}
use Rattle.cel_tree.specs.TypeEntries as types
use Rattle.cel_tree.specs.TypeEntries.{plain, list_of, map_of}
use Rattle.cel_tree.specs.View.{type_entry_view, constant_view}
use Rattle.cel_read.specs.private.EntryViews.{entry_nodes_view}
use Rattle.cel_read.specs.declared.parsed.LoopNode.{LoopNode}
use Rattle.cel_read.specs.declared.parsed.Node.{Node}
use Rattle.cel_read.specs.declared.parsed.Node.TheVariants as coded
use Rattle.cel_read.specs.declared.type_node.TypeNode.{TypeNode}
use Rattle.cel_read.specs.declared.type_node.TypeNode.TheVariants as type_nodes

-- the message of a type
abbrev pub type_node_view : TypeNode → types.TypeNode
type_node_view (type_nodes.Plain entry) = plain (type_entry_view entry)
type_node_view (type_nodes.List elem) = list_of (parts_view elem.items)
type_node_view (type_nodes.Map key value) = map_of (parts_view key.items) (parts_view value.items)

-- the message of a comprehension
abbrev pub loop_node_view : LoopNode → nodes.LoopNode
loop_node_view p = record {
  iter_var = text_view p.iter_var;
  iter_var2 = text_view p.iter_var2;
  accu_var = text_view p.accu_var;
  iter_range = parts_view p.iter_range.items;
  accu_init = parts_view p.accu_init.items;
  loop_condition = parts_view p.loop_condition.items;
  loop_step = parts_view p.loop_step.items;
  result = parts_view p.result.items;
}

-- the message of a node
abbrev pub node_view : Node → nodes.Node
node_view (coded.Constant c) = constant_node (constant_view c)
node_view (coded.Ident name) = ident_node (text_view name)
node_view (coded.Select operand field test_only) =
    select_node (parts_view operand.items) (text_view field) test_only
node_view (coded.Call function target args) =
    call_node (text_view function) (parts_view target.items) (parts_view args.items)
node_view (coded.List elements) = list_node (parts_view elements.items)
node_view (coded.Map entries) = map_node (entry_nodes_view entries.items)
node_view (coded.Comprehension p) = loop_node (loop_node_view p)

-- a node with its id
abbrev pub numbered_view : ℤ × Node → ℤ × nodes.Node
numbered_view n = (n.0, node_view n.1)
