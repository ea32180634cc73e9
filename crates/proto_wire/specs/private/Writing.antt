-- Bytes that are appended to other bytes.
use Rattle.std.specs.Prelude.{◌≡◌, ℕ, List, ◌++◌}
use Rattle.proto_wire.specs.Shortest.{ShortestVarint}

-- the new bytes begin with the old ones
abbrev pub Keeps : List ℕ → List ℕ → Type 0
Keeps before after = (more : List ℕ) × (after ≡ before ++ more)

-- the new bytes are the old ones and then the number's shortest varint
abbrev pub AppendsVarint : List ℕ → ℕ → List ℕ → Type 0
AppendsVarint before n after = (bytes : List ℕ) × ShortestVarint bytes n × (after ≡ before ++ bytes)
