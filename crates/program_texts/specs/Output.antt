-- What a writer holds after it was given a text.
use Rattle.std.specs.Prelude.{◌<◌, ◌⊎◌, ℕ, List, Option, length, take}
use Rattle.std.specs.Io.KnownBytes.{Appends}

-- the writer took a proper beginning of the text
abbrev pub BreaksOff : Option (List ℕ) → Option (List ℕ) → List ℕ → Type 0
BreaksOff old new text = (n : ℕ) × (n < length text) × Appends old new (take n text)

-- the writer took the text, or a proper beginning of it
abbrev pub Takes : Option (List ℕ) → Option (List ℕ) → List ℕ → Type 0
Takes old new text = Appends old new text ⊎ BreaksOff old new text
