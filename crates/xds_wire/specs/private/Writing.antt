-- Fields that are appended to bytes.
use Rattle.std.specs.Prelude.{◌≡◌, ℕ, List, ◌++◌}
use Rattle.proto_wire.specs.Fields.{Wire}
use Rattle.proto_wire.specs.Shortest.{Shortest}

-- the new bytes are the old ones and then the fields
abbrev pub Adds : List ℕ → List Wire → List ℕ → Type 0
Adds before fs after = (bytes : List ℕ) × Shortest fs bytes × (after ≡ before ++ bytes)
