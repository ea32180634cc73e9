-- Lines that wait are written (this project's own).
use Rattle.std.specs.Prelude.{◌≡◌, ℕ, List, Option, ◌++◌, ◌∷◌, []}
use Rattle.std.specs.Io.KnownBytes.{Appends}

-- the line with this text: its bytes, and a line feed
abbrev pub line_of : List ℕ → List ℕ
line_of text = text ++ (10 ∷ [])

-- of the bytes that waited, the writer took the first, in order, and the rest is left
abbrev pub Writes : Option (List ℕ) → Option (List ℕ) → List ℕ → List ℕ → Type 0
Writes out out_new waiting left = (written : List ℕ) × Appends out out_new written × (waiting ≡ written ++ left)
