-- The values of a map, in order.
use Rattle.std.specs.Prelude.{◌≡◌, ℕ, List, [], ◌∷◌}
use Rattle.proto_wire.specs.Maps.{KeyKind, KeyOf, Entry}

-- the keys of the entries in order, each with the value that its payloads merge to
abbrev pub Held : (kind : KeyKind) {V : Type 0} → (List (List ℕ) → V → Type 0)
    → List (Entry kind) → List (KeyOf kind × V) → Type 0
Held kind IsValue [] values = values ≡ []
Held kind {V} IsValue (entry ∷ entries) values =
    (value : V) × (others : List (KeyOf kind × V)) × IsValue entry.1 value
    × Held kind IsValue entries others × (values ≡ (entry.0, value) ∷ others)
