-- Copies into C's memory (this project's own). Whole characters are those of UTF-8 (RFC 3629, section 3).
use Rattle.std.specs.Prelude.{◌≡◌, ◌⊎◌, ◌<◌, ◌≤◌, ◌+◌, ℕ, List, [], ◌∷◌, ◌++◌, take, drop, length}
use Rattle.std.specs.Str.{IsCharBoundary, IsUtf8}

-- the room after the bytes were copied into it, as many as it takes
abbrev pub filled : List ℕ → List ℕ → List ℕ
filled bytes room = take (length room) bytes ++ drop (length bytes) room

-- the text's first bytes that are whole characters and leave a byte of a room of this size; no more bytes are such
pub record AreWhole (text : List ℕ) (room count : ℕ) : Type 0 where
  pub within : count < room
  pub boundary : IsCharBoundary text count
  pub most : (n : ℕ) → n < room → IsCharBoundary text n → n ≤ count

-- the room after the text was copied into it: as many whole characters as it takes, and a zero after them. No room
-- stays as it is
abbrev pub HoldsText : List ℕ → List ℕ → List ℕ → Type 0
HoldsText text old new = ((old ≡ []) × (new ≡ []))
    ⊎ ((count : ℕ) × AreWhole text (length old) count × (new ≡ take count text ++ 0 ∷ drop (count + 1) old))

-- the room after some text was copied into it
abbrev pub HoldsSomeText : List ℕ → List ℕ → Type 0
HoldsSomeText old new = (text : List ℕ) × IsUtf8 text × HoldsText text old new
