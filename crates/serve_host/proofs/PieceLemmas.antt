-- The first line of some bytes, and their lines.
use Rattle.std.proofs.Common.{◌≡◌, ◌<◌, ◌≤◌, ℕ, zero, suc, ◌+◌, ◌-◌, ◌==◌, Bool, true, false, List, [], ◌∷◌, ◌++◌, length, take, drop, refl, sym, ap, add-one, ◌∙◌, arith, if◌then◌else◌}
use Rattle.std.proofs.Math.Seq.{take-length}
use Rattle.std.proofs.lemmas.List.{drop-drop, length-append, length-drop}
use Rattle.memchr.specs.Find.{Nowhere, Passes, is_byte}
use Rattle.serve_host.specs.Pieces.{begin_with, first_line, is_empty_line, lines_of, piece_of, up_to_empty}

-- ---- the lines

one_line : (c : Bool) (b : ℕ) (bytes : List ℕ)
    → begin_with b (lines_of bytes) ≡ (b ∷ first_line bytes) ∷ lines_of (drop (length (first_line bytes)) bytes)
    → (if c then (b ∷ []) ∷ lines_of bytes else begin_with b (lines_of bytes))
    ≡ (if c then b ∷ [] else b ∷ first_line bytes) ∷ lines_of (drop (length (if c then b ∷ [] else b ∷ first_line bytes)) (b ∷ bytes))
one_line true b bytes goes_on = refl
one_line false b bytes goes_on = goes_on

-- the lines of some bytes are the first line, and those of what follows it
lines_are : (b : ℕ) (bytes : List ℕ)
    → lines_of (b ∷ bytes) ≡ first_line (b ∷ bytes) ∷ lines_of (drop (length (first_line (b ∷ bytes))) (b ∷ bytes))
lines_are b [] = one_line (b == 10) b [] refl
lines_are b (d ∷ bytes) = one_line (b == 10) b (d ∷ bytes) (ap (begin_with b) (lines_are d bytes))

-- so many bytes of a line are no more than there are
chosen_short : (c : Bool) (b : ℕ) (bytes : List ℕ) → length (first_line bytes) ≤ length bytes
    → length (if c then b ∷ [] else b ∷ first_line bytes) ≤ suc (length bytes)
chosen_short true b bytes short = omega arith
chosen_short false b bytes short = omega arith

pub line_short : (bytes : List ℕ) → length (first_line bytes) ≤ length bytes
line_short [] = omega arith
line_short (b ∷ bytes) = chosen_short (b == 10) b bytes (line_short bytes)

chosen_some : (c : Bool) (b : ℕ) (bytes : List ℕ) → 0 < length (if c then b ∷ [] else b ∷ first_line bytes)
chosen_some true b bytes = omega arith
chosen_some false b bytes = omega arith

pub line_some : (bytes : List ℕ) → 0 < length bytes → 0 < length (first_line bytes)
line_some [] some = absurd (omega arith)
line_some (b ∷ bytes) some = chosen_some (b == 10) b bytes

-- the piece of bytes whose first line is empty, or not
pub piece_is : (bytes : List ℕ) → 0 < length bytes
    → piece_of bytes ≡ first_line bytes ++ (if is_empty_line (first_line bytes) then [] else piece_of (drop (length (first_line bytes)) bytes))
piece_is [] some = absurd (omega arith)
piece_is (b ∷ bytes) some = ap up_to_empty (lines_are b bytes)

-- ---- where a line ends

ends_here : (c : Bool) (b : ℕ) (bytes : List ℕ) → c ≡ true → (if c then b ∷ [] else b ∷ first_line bytes) ≡ b ∷ []
ends_here c b bytes is = rw is refl

goes_on : (c : Bool) (b : ℕ) (bytes : List ℕ) → ¬ (c ≡ true) → (if c then b ∷ [] else b ∷ first_line bytes) ≡ b ∷ first_line bytes
goes_on true b bytes not = absurd (not refl)
goes_on false b bytes not = refl

-- the first line ends with the first LF
line_from : (bytes : List ℕ) (at : ℕ) → at < length bytes → Passes (is_byte 10) bytes at
    → Nowhere (Passes (is_byte 10) bytes) 0 at → first_line bytes ≡ take (suc at) bytes
line_from [] at within is none = absurd (omega arith)
line_from (b ∷ bytes) zero within is none = ends_here (b == 10) b bytes is
line_from (b ∷ bytes) (suc at) within is none =
    goes_on (b == 10) b bytes (none 0 (omega arith) (omega arith))
    ∙ ap (λ (l : List ℕ). b ∷ l) (line_from bytes at (omega arith) is (λ k low high. none (suc k) (omega arith) (omega arith)))

pub line_at : (bytes : List ℕ) (at : ℕ) → at < length bytes → Passes (is_byte 10) bytes at
    → Nowhere (Passes (is_byte 10) bytes) 0 at → first_line bytes ≡ take (at + 1) bytes
line_at bytes at within is none = line_from bytes at within is none ∙ ap (λ (n : ℕ). take n bytes) (sym (add-one at))

-- it is all bytes if they have no LF
pub line_all : (bytes : List ℕ) → Nowhere (Passes (is_byte 10) bytes) 0 (length bytes) → first_line bytes ≡ bytes
line_all [] none = refl
line_all (b ∷ bytes) none =
    goes_on (b == 10) b bytes (none 0 (omega arith) (omega arith))
    ∙ ap (λ (l : List ℕ). b ∷ l) (line_all bytes (λ k low high. none (suc k) (omega arith) (omega arith)))

-- ---- the bytes so far are whole lines, none of them empty

module _ (bytes : List ℕ) (start : ℕ) (line : List ℕ) (e : Bool) (within : start < length bytes)
    (found : line ≡ first_line (take (length bytes - start) (drop start bytes))) (empty : e ≡ is_empty_line line)
    (so_far : length (piece_of bytes) ≡ start + length (piece_of (drop start bytes))) where
  is : line ≡ first_line (drop start bytes)
  is = found ∙ ap (λ (n : ℕ). first_line (take n (drop start bytes))) (sym (length-drop start bytes)) ∙ ap first_line (take-length (drop start bytes))

  some : 0 < length (drop start bytes)
  some = (let e = length-drop start bytes in omega arith)

  here : piece_of (drop start bytes) ≡ line ++ (if e then [] else piece_of (drop (length line) (drop start bytes)))
  here = rw (empty, is) (piece_is (drop start bytes) some)

  -- the next line is empty
  pub last_line : e ≡ true → start + length line ≡ length (piece_of bytes)
  last_line ends =
      let whole = length-append line [] in
      let one = ap length (rw ends at here) in omega arith

  pub line_some_here : 0 < length line
  line_some_here = rw is (line_some (drop start bytes) some)

  pub line_within : start + length line ≤ length bytes
  line_within = (let a : length line ≤ length (drop start bytes) = rw is (line_short (drop start bytes)) in let b = length-drop start bytes in omega arith)

  -- it is not empty
  pub next_line : e ≡ false → length (piece_of bytes) ≡ (start + length line) + length (piece_of (drop (start + length line) bytes))
  next_line goes =
      let whole = length-append line (piece_of (drop (length line) (drop start bytes))) in
      let one = ap length (rw goes at here) in
      let later = ap (λ (l : List ℕ). length (piece_of l)) (drop-drop (length line) start bytes) in omega arith
