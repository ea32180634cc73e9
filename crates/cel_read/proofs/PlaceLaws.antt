-- A fault at its place is a fault.
use Rattle.std.proofs.Common.{inl, inr, ℕ, zero, suc, List, [], ◌∷◌, arith}
use Rattle.proto_wire.specs.Maps.{MapFault, int64, in_entry, in_value}
use Rattle.proto_wire.specs.Fields.{Wire}
use Rattle.proto_wire.specs.Places.{Path}
use Rattle.proto_wire.specs.declared.refusal.Refusal.{Refusal}
use Rattle.cel_tree.specs.Message.{CheckedFault, CheckedLacks, CheckedWrong, ExprFault, ExprParts, UncheckedFault, checked_keys, checked_parts, unchecked_parts, in_expression, most_nodes, tree_depth}
use Rattle.cel_tree.specs.Message as messages
use Rattle.cel_tree.specs.Nodes.{Parts, children}
use Rattle.proto_wire.specs.Reading as reading
use Rattle.cel_tree.specs.Trees.{in_node}
use Rattle.proto_wire.specs.private.Values.{ValuesFault}
use Rattle.proto_wire.proofs.Readers.{values_fault}
use Rattle.cel_read.specs.Places.{OwnFault, too_deep, too_many, of_message, TreeFaultAt, SomeFaultAt, MapFaultAt, of_payload, of_value, CheckedWrongAt, no_expr, in_expr, in_types, in_refs, CheckedFaultAt, of_fields, in_fields, ExprFaultAt}
use Rattle.cel_read.proofs.Counting.{TreeFails, SomeFails, node_fails, one_there}

own_fails : (depth left : ℕ) (parts : Parts) (e : Refusal) → OwnFault depth left parts e → TreeFails depth left parts e
own_fails zero left parts e (too_deep none is) = inl is
own_fails (suc depth) left parts e (too_deep none is) = absurd (omega (arith, none))
own_fails depth left parts e (too_many none is) = inr (1, one_there depth parts, omega (arith, none), is)
own_fails zero left parts e (of_message some bad) = absurd (omega (arith, some))
own_fails (suc depth) left parts e (of_message some bad) = inl (in_node bad)

some_fails : (depth : ℕ) → ((left : ℕ) (parts : Parts) (path : Path) (e : Refusal) → TreeFaultAt depth left parts path e → TreeFails depth left parts e)
    → (left : ℕ) (cs : List Parts) (path : Path) (e : Refusal) → SomeFaultAt depth left cs path e → SomeFails depth left cs e
some_fails depth below left [] path e bad = absurd bad
some_fails depth below left (c ∷ cs) path e (inl bad) = inl (below left c path e bad)
some_fails depth below left (c ∷ cs) path e (inr (t, rest, read, sum, later)) =
    inr (t, rest, read, sum, some_fails depth below rest cs path e later)

-- a tree has the fault, or too many nodes
pub tree_fails : (depth left : ℕ) (parts : Parts) (path : Path) (e : Refusal) → TreeFaultAt depth left parts path e
    → TreeFails depth left parts e
tree_fails zero left parts path e bad = own_fails zero left parts e bad.1
tree_fails (suc depth) left parts path e (inl bad) = own_fails (suc depth) left parts e bad.1
tree_fails (suc depth) left parts path e (inr (id, node, rest, is, sum, bad)) =
    node_fails depth parts id node rest left e is sum
    (some_fails depth (λ l p path d h. tree_fails depth l p path d h) rest (children node) path e bad)

map_fails : (ValueFault : List (List ℕ) → Refusal → Type 0) (parts : List (List ℕ)) (path : Path) (e : Refusal)
    → MapFaultAt ValueFault parts path e → MapFault int64 ValueFault parts e
map_fails ValueFault parts path e (of_payload bad is) = in_entry bad
map_fails ValueFault parts path e (of_value read readable (id, value, at, bad, names)) =
    in_value read readable (id, value, at, bad)

-- so has the message of a checked expression
checked_wrong : (fs : List Wire) (path : Path) (e : Refusal) → CheckedWrongAt fs path e
    → ValuesFault CheckedLacks CheckedWrong fs e
checked_wrong fs path e (no_expr none is at) = inl (none, is)
checked_wrong fs path e (in_expr inner there bad begins) =
    inr (in_expression (there, tree_fails tree_depth most_nodes _ inner e bad))
checked_wrong fs path e (in_types inner bad begins) = inr (messages.in_types (map_fails _ _ inner e bad))
checked_wrong fs path e (in_refs inner bad begins) = inr (messages.in_refs (map_fails _ _ inner e bad))

pub checked_fails : (parts : List (List ℕ)) (path : Path) (e : Refusal) → CheckedFaultAt parts path e
    → CheckedFault parts e
checked_fails parts path e (of_fields bad at) = reading.in_fields bad
checked_fails parts path e (in_fields fs message bad) =
    values_fault checked_keys CheckedLacks CheckedWrong parts fs message e (checked_wrong fs path e bad)

pub unchecked_fails : (parts : List (List ℕ)) (path : Path) (e : Refusal)
    → TreeFaultAt tree_depth most_nodes parts path e → UncheckedFault parts e
unchecked_fails parts path e bad = tree_fails tree_depth most_nodes parts path e bad

pub expr_fails : (parts : ExprParts) (path : Path) (e : Refusal) → ExprFaultAt parts path e → ExprFault parts e
expr_fails (checked_parts parts) path e bad = checked_fails parts path e bad
expr_fails (unchecked_parts parts) path e bad = unchecked_fails parts path e bad
