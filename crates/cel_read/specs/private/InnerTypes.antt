-- Faults of the types inside a type; the code reads these in order.
use Rattle.std.specs.Prelude.{◌⊎◌, List, ℕ}
use Rattle.proto_wire.specs.declared.refusal.Refusal.{Refusal}
use Rattle.cel_tree.specs.TypeEntries.{TypeNode, plain, list_of, map_of}

-- a type inside has this fault
abbrev pub HoldsFault : (List (List ℕ) → Refusal → Type 0) → TypeNode → Refusal → Type 0
HoldsFault Below (plain own) e = ⊥
HoldsFault Below (list_of elem) e = Below elem e
HoldsFault Below (map_of key value) e = Below key e ⊎ Below value e
