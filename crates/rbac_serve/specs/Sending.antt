-- Bytes that wait are sent (this project's own).
use Rattle.std.specs.Prelude.{◌≡◌, ℕ, List, Option, ◌++◌}
use Rattle.std.specs.Io.KnownBytes.{Appends}

-- of the bytes that waited, the writer took the first, in order, and the rest is left
abbrev pub Sends : Option (List ℕ) → Option (List ℕ) → List ℕ → List ℕ → Type 0
Sends out out_new waiting left = (sent : List ℕ) × Appends out out_new sent × (waiting ≡ sent ++ left)
