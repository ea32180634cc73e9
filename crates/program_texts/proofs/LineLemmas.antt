-- One line more of an input, and its end.
use Rattle.std.proofs.Common.{◌≡◌, ◌≢◌, ◌++◌, ◌∙◌, ℕ, List, [], ◌∷◌, Option, Some, None, ap, sym}
use Rattle.std.specs.Prelude.{IfSome}
use Rattle.std.specs.declared.io.ErrorKind.{ErrorKind as IoKind}
use Rattle.std.specs.Io.BufRead.{drop_through, take_through}
use Rattle.program_texts.specs.InputLines.{AreLines, ReadsLine}

-- one line more of the bytes
lines_more : (bytes : List ℕ) (lines : List (List ℕ)) (left line : List ℕ) → AreLines bytes lines left → left ≢ []
    → line ≡ take_through 10 left → AreLines bytes (lines ++ line ∷ []) (drop_through 10 left)
lines_more bytes [] left line are some is =
    (rw are at some, rw are at is, ap (drop_through 10) are)
lines_more bytes (first ∷ lines) left line (more, here, rest) some is =
    (more, here, lines_more (drop_through 10 bytes) lines left line rest some is)

-- what was read of an input, where it is known
pub read_more : (input now next : Option (List ℕ)) (lines : List (List ℕ)) (line : List ℕ)
    → IfSome input (λ bytes. (left : List ℕ) × (now ≡ Some left) × AreLines bytes lines left)
    → ReadsLine now line next
    → IfSome input (λ bytes. (left : List ℕ) × (next ≡ Some left) × AreLines bytes (lines ++ line ∷ []) left)
read_more None now next lines line read more = tt
read_more (Some bytes) now next lines line (left, known, are) more =
    let here = rw known at more in
    (drop_through 10 left, here.2, lines_more bytes lines left line are here.0 here.1)

-- at the end of the input
pub end_of : (input now next : Option (List ℕ)) (P : List ℕ → List ℕ → Type 0)
    → IfSome input (λ bytes. (left : List ℕ) × (now ≡ Some left) × P bytes left)
    → IfSome now (λ bytes. (bytes ≡ []) × (next ≡ Some []))
    → IfSome input (λ bytes. next ≡ Some [])
end_of None now next P read end = tt
end_of (Some bytes) now next P (left, known, are) end = (rw known at end).1

-- and what was read stays so
pub read_at_end : (input now next : Option (List ℕ)) (P : List ℕ → List ℕ → Type 0)
    → IfSome input (λ bytes. (left : List ℕ) × (now ≡ Some left) × P bytes left)
    → IfSome now (λ bytes. (bytes ≡ []) × (next ≡ Some []))
    → IfSome input (λ bytes. (left : List ℕ) × (next ≡ Some left) × P bytes left)
read_at_end None now next P read end = tt
read_at_end (Some bytes) now next P (left, known, are) end =
    let here = rw known at end in
    ([], here.1, rw here.0 at are)

-- an input that is late is not out of memory
pub not_memory : (kind : IoKind) → kind ≡ IoKind.TimedOut → ¬ (kind ≡ IoKind.OutOfMemory)
not_memory kind late none =
    let clash : IoKind.TimedOut ≡ IoKind.OutOfMemory = sym late ∙ none in cc
