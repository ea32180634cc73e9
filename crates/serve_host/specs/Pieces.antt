-- The first lines of some bytes, up to an empty one (RFC 9112, sections 2.1 and 2.2).
use Rattle.std.specs.Prelude.{◌≡◌, ◌⊎◌, ◌==◌, ℕ, Bool, false, List, [], ◌∷◌, ◌++◌, if◌then◌else◌}

-- these lines with a byte before the first one
abbrev pub begin_with : ℕ → List (List ℕ) → List (List ℕ)
begin_with b [] = (b ∷ []) ∷ []
begin_with b (line ∷ lines) = (b ∷ line) ∷ lines

-- the bytes as lines: each ends with LF, except that the last one may not
abbrev pub lines_of : List ℕ → List (List ℕ)
lines_of [] = []
lines_of (b ∷ bytes) = if b == 10 then (b ∷ []) ∷ lines_of bytes else begin_with b (lines_of bytes)

-- a line has nothing before its end, which is LF, or CR and LF
abbrev pub is_empty_line : List ℕ → Bool
is_empty_line [] = false
is_empty_line (b ∷ []) = b == 10
is_empty_line (b ∷ c ∷ []) = if b == 13 then c == 10 else false
is_empty_line (b ∷ c ∷ d ∷ line) = false

-- the bytes of these lines up to the first empty one
abbrev pub up_to_empty : List (List ℕ) → List ℕ
up_to_empty [] = []
up_to_empty (line ∷ lines) = line ++ (if is_empty_line line then [] else up_to_empty lines)

-- the first bytes: the lines up to the first empty one, or all
abbrev pub piece_of : List ℕ → List ℕ
piece_of bytes = up_to_empty (lines_of bytes)

-- the first line
abbrev pub first_line : List ℕ → List ℕ
first_line [] = []
first_line (b ∷ bytes) = if b == 10 then b ∷ [] else b ∷ first_line bytes

-- what was given are the first lines of what was read, if something was kept
abbrev pub IsOnePiece : List ℕ → List ℕ → Type 0
IsOnePiece given kept = (kept ≡ []) ⊎ (given ≡ piece_of (given ++ kept))
