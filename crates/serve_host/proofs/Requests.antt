-- What a reader gives and keeps of what it read.
use Rattle.std.proofs.Common.{◌≡◌, ◌<◌, ◌≤◌, ℕ, zero, suc, ◌+◌, ◌-◌, ◌==◌, Bool, true, false, List, [], ◌∷◌, ◌++◌, Option, None, Some, length, take, drop, min, refl, sym, ap, ◌∙◌, inr, arith, append_assoc, if◌then◌else◌}
use Rattle.std.proofs.Math.Seq.{take-append_seam}
use Rattle.std.proofs.lemmas.List.{drop-take, length-append, length-drop, length-take, take-append-drop}
use Rattle.std.specs.Io.KnownBytes.{Consumes, IsAtEnd, prepend_known}
use Rattle.serve_host.specs.Pieces.{IsOnePiece, begin_with, first_line, is_empty_line, lines_of, piece_of, up_to_empty}
use Rattle.serve_host.proofs.PieceLemmas.{line_some, piece_is}

-- ---- bytes begin with their piece

abbrev all_of : List (List ℕ) → List ℕ
all_of [] = []
all_of (line ∷ lines) = line ++ all_of lines

begun_all : (b : ℕ) (lines : List (List ℕ)) → all_of (begin_with b lines) ≡ b ∷ all_of lines
begun_all b [] = refl
begun_all b (line ∷ lines) = refl

one_whole : (c : Bool) (b : ℕ) (bytes : List ℕ) → all_of (lines_of bytes) ≡ bytes
    → all_of (if c then (b ∷ []) ∷ lines_of bytes else begin_with b (lines_of bytes)) ≡ b ∷ bytes
one_whole true b bytes whole = ap (λ (l : List ℕ). b ∷ l) whole
one_whole false b bytes whole = begun_all b (lines_of bytes) ∙ ap (λ (l : List ℕ). b ∷ l) whole

lines_whole : (bytes : List ℕ) → all_of (lines_of bytes) ≡ bytes
lines_whole [] = refl
lines_whole (b ∷ bytes) = one_whole (b == 10) b bytes (lines_whole bytes)

begins : (line up all rest : List ℕ) (e : Bool) → all ≡ up ++ rest
    → (more : List ℕ) × (line ++ all ≡ (line ++ (if e then [] else up)) ++ more)
begins line up all rest true is = (all, sym (append_assoc line [] all))
begins line up all rest false is = (rest, ap (λ (l : List ℕ). line ++ l) is ∙ sym (append_assoc line up rest))

lines_begin : (lines : List (List ℕ)) → (rest : List ℕ) × (all_of lines ≡ up_to_empty lines ++ rest)
lines_begin [] = ([], refl)
lines_begin (line ∷ lines) =
    let (rest, is) = lines_begin lines in begins line (up_to_empty lines) (all_of lines) rest (is_empty_line line) is

pub piece_begins : (bytes : List ℕ) → (rest : List ℕ) × (bytes ≡ piece_of bytes ++ rest)
piece_begins bytes = let (rest, is) = lines_begin (lines_of bytes) in (rest, sym (lines_whole bytes) ∙ is)

-- so the piece is so many of the first bytes
pub piece_first : (bytes : List ℕ) → take (length (piece_of bytes)) bytes ≡ piece_of bytes
piece_first bytes =
    let (rest, is) = piece_begins bytes in
    ap (λ (l : List ℕ). take (length (piece_of bytes)) l) is ∙ take-append_seam (piece_of bytes) rest

-- of some bytes the piece has some
pub piece_some : (bytes : List ℕ) → 0 < length bytes → 0 < length (piece_of bytes)
piece_some bytes some =
    let line = line_some bytes some in
    let whole = ap length (piece_is bytes some) ∙ length-append (first_line bytes) _ in omega arith

-- ---- the bytes that are known

part_consumed : (old new : Option (List ℕ)) (all part kept : List ℕ) → all ≡ part ++ kept → Consumes old new all
    → Consumes old (prepend_known kept new) part
part_consumed None new all part kept is consumed = tt
part_consumed (Some xs) None all part kept is consumed = absurd consumed
part_consumed (Some xs) (Some ys) all part kept is consumed =
    consumed ∙ ap (λ (l : List ℕ). l ++ ys) is ∙ append_assoc part kept ys

end_of : (new : Option (List ℕ)) (kept : List ℕ) → kept ≡ [] → IsAtEnd new → IsAtEnd (prepend_known kept new)
end_of None kept none end = tt
end_of (Some ys) kept none end = ap (λ (l : List ℕ). l ++ ys) none ∙ end

given_first : (n : ℕ) (w : List ℕ) (r : Option (List ℕ))
    → Consumes (prepend_known w r) (prepend_known (drop n w) r) (take n w)
given_first n w None = tt
given_first n w (Some rs) =
    ap (λ (l : List ℕ). l ++ rs) (sym (take-append-drop n w)) ∙ append_assoc (take n w) (drop n w) rs

first_of : (n count : ℕ) (xs : List ℕ) → n ≤ count → take n (take count xs) ≡ take n xs
first_of zero count xs below = refl
first_of (suc n) zero xs below = absurd (omega arith)
first_of (suc n) (suc count) [] below = refl
first_of (suc n) (suc count) (x ∷ xs) below = ap (λ (l : List ℕ). x ∷ l) (first_of n count xs (omega arith))

none_read : (count : ℕ) (buf : List ℕ) → count ≤ length buf → 0 ≡ length (piece_of (take count buf)) → count ≡ 0
none_read zero buf fits none = refl
none_read (suc count) buf fits none =
    let read = length-take (suc count) buf in
    let some = piece_some (take (suc count) buf) (omega arith) in absurd (omega arith)

-- ---- reading

module _ (old new : Option (List ℕ)) (buf : List ℕ) (count n : ℕ) (kept : List ℕ) (fits : count ≤ length buf)
    (piece : n ≡ length (piece_of (take count buf))) (within : n ≤ length (take count buf))
    (left : kept ≡ take (count - n) (drop n buf)) where
  n_below : n ≤ count
  n_below = (let l = length-take count buf in omega arith)

  -- what is given, and then what is kept
  whole : take count buf ≡ take n buf ++ kept
  whole =
      let there : n + (count - n) ≡ count = omega (arith, n_below) in
      sym (take-append-drop n (take count buf))
      ∙ ap (λ (l : List ℕ). l ++ drop n (take count buf)) (first_of n count buf n_below)
      ∙ ap (λ (l : List ℕ). take n buf ++ l) (ap (λ (k : ℕ). drop n (take k buf)) (sym there) ∙ drop-take n (count - n) buf ∙ sym left)

  pub received : Consumes old new (take count buf) → (count ≡ 0 → 0 < length buf → IsAtEnd new)
      → Consumes old (prepend_known kept new) (take n buf) × (n ≡ 0 → 0 < length buf → IsAtEnd (prepend_known kept new))
  received consumed end = (
    part_consumed old new (take count buf) (take n buf) kept whole consumed,
    λ none some.
        let nothing : count ≡ 0 = none_read count buf fits (sym none ∙ piece) in
        let no_more : count - n ≡ 0 = omega (arith, nothing) in
        end_of new kept (left ∙ ap (λ (k : ℕ). take k (drop n buf)) no_more) (end nothing some),
  )

  pub one_piece : IsOnePiece (take n buf) kept
  one_piece =
      inr (sym (first_of n count buf n_below) ∙ ap (λ (k : ℕ). take k (take count buf)) piece
      ∙ piece_first (take count buf) ∙ ap piece_of whole)

-- ---- giving what was kept

pub some_bytes : (w : List ℕ) → ¬ (w ≡ []) → 0 < length w
some_bytes [] not = absurd (not refl)
some_bytes (b ∷ w) not = omega arith

-- the piece is a part
pub piece_part : (w : List ℕ) → length (piece_of w) ≤ length w
piece_part w =
    let (rest, is) = piece_begins w in
    let whole = ap length is ∙ length-append (piece_of w) rest in omega arith

-- so many of the bytes that waited are given, as far as there is room
module _ (w : List ℕ) (r : Option (List ℕ)) (room new : List ℕ) (n many : ℕ) (some : 0 < many) (part : many ≤ length w)
    (count : n ≡ min many (length room))
    (given : new ≡ take n w ++ drop n room) where
  within : n ≤ length w
  within = omega arith

  first_given : take n new ≡ take n w
  first_given =
      let all : length (take n w) ≡ n = (let l = length-take n w in omega (arith, within)) in
      ap (λ (l : List ℕ). take n l) given ∙ ap (λ (k : ℕ). take k (take n w ++ drop n room)) (sym all)
      ∙ take-append_seam (take n w) (drop n room)

  same_room : n ≤ length room → length new ≡ length room
  same_room below =
      let a = ap length given ∙ length-append (take n w) (drop n room) in
      let b = length-take n w in
      let c = length-drop n room in omega (arith, within)

  -- something is given, since something waits
  pub never_none : n ≡ 0 → 0 < length new → ⊥
  never_none none room_left =
      let same = same_room (omega arith) in omega arith

  pub gave : Consumes (prepend_known w r) (prepend_known (drop n w) r) (take n new)
  gave = rw first_given (given_first n w r)
