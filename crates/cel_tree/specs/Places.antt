-- Where in an expression a fault is: a node by its id, or an entry of a map by its key. The step to it names the field that
-- has the id, and the id instead of a position. An id that has no room in a step is left out.
use Rattle.std.specs.Prelude.{◌≡◌, ◌⊎◌, ℕ, ℤ}
use Rattle.std.specs.Int.{cast_unsigned, w64}
use Rattle.proto_wire.specs.Places.{Path, BeginsWith, path_at, path_of}
use Rattle.proto_wire.specs.declared.placed.Fault.{Fault}
use Rattle.proto_wire.specs.declared.refusal.Refusal.{Refusal}
use Rattle.proto_wire.specs.declared.refusal.Refusal.TheVariants.{Memory}
use Rattle.cel_tree.specs.Nodes.{node_field}

-- the path names the node with this id
abbrev pub NamesNode : ℤ → Path → Type 0
NamesNode id path = BeginsWith node_field.id (cast_unsigned w64 id) (path_at 0) path

-- the field of a map's entry that has its key
abbrev pub key_field : ℕ
key_field = 1

-- the path names the entry with this id
abbrev pub NamesEntry : ℤ → Path → Type 0
NamesEntry id path = BeginsWith key_field (cast_unsigned w64 id) (path_at 0) path

-- out of memory, or the fault at its place
abbrev pub PlacedOr : (Path → Refusal → Type 0) → Fault → Type 0
PlacedOr F fault = (fault.refusal ≡ Memory) ⊎ F (path_of fault.place) fault.refusal
