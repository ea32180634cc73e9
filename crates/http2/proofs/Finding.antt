-- Where a stream is among those that are open, and the first call among those that wait.
use Rattle.std.proofs.Common.{◌≡◌, ◌<◌, arith, ℕ, ◌+◌, ◌==◌, Bool, true, false, if◌then◌else◌, Some, None, List, [], ◌∷◌, ◌++◌, map, length, take, drop, get_or, refl, sym, ap, ap₂, ◌∙◌, ◌≤◌, suc, append_assoc}
use Rattle.std.proofs.lemmas.List.{length_push, map-append}
use Rattle.http2.specs.Streams.{StreamValue, find, others}
use Rattle.http2.specs.StreamViews.{stream_view, call_view}
use Rattle.http2.specs.declared.stream.Call.{Call}
use Rattle.http2.specs.declared.stream.Stream.{Stream}

-- streams of other numbers
abbrev pub AreOther : ℕ → List Stream → Type 0
AreOther n [] = Unit {0}
AreOther n (s ∷ ss) = ((s.number == n) ≡ false) × AreOther n ss

pub other_more : (n : ℕ) (front : List Stream) (s : Stream) → AreOther n front → (s.number == n) ≡ false → AreOther n (front ++ s ∷ [])
other_more n [] s are is = (is, tt)
other_more n (x ∷ front) s (first, are) is = (first, other_more n front s are is)

-- the stream of a number is not among them
pub find_behind : (n : ℕ) (front back : List Stream) → AreOther n front
    → find n (map stream_view (front ++ back)) ≡ find n (map stream_view back)
find_behind n [] back are = refl
find_behind n (s ∷ front) back (is, are) =
    ap (λ (b : Bool). if b then Some (stream_view s) else find n (map stream_view (front ++ back))) is ∙ find_behind n front back are

pub others_behind : (n : ℕ) (front back : List Stream) → AreOther n front
    → others n (map stream_view (front ++ back)) ≡ map stream_view front ++ others n (map stream_view back)
others_behind n [] back are = refl
others_behind n (s ∷ front) back (is, are) =
    ap (λ (b : Bool). if b then map stream_view (front ++ back) else stream_view s ∷ others n (map stream_view (front ++ back))) is
    ∙ ap (λ (ss : List StreamValue). stream_view s ∷ ss) (others_behind n front back are)

-- the stream at a place
pub at_place : (front back : List Stream) (s d : Stream) → get_or (front ++ s ∷ back) (length front) d ≡ s
at_place [] back s d = refl
at_place (x ∷ front) back s d = at_place front back s d

pub before_place : (front back : List Stream) (s : Stream) → take (length front) (front ++ s ∷ back) ≡ front
before_place [] back s = refl
before_place (x ∷ front) back s = ap (λ (ss : List Stream). x ∷ ss) (before_place front back s)

pub after_place : (front back : List Stream) (s : Stream) → drop (length front + 1) (front ++ s ∷ back) ≡ back
after_place [] back s = refl
after_place (x ∷ front) back s =
    let one : length (x ∷ front) + 1 ≡ suc (length front + 1) = omega arith in
    ap (λ (n : ℕ). drop n (x ∷ (front ++ s ∷ back))) one ∙ after_place front back s

-- the front of a list whose streams are of other numbers, as long as so much
abbrev pub Front : ℕ → List Stream → List Stream → ℕ → Type 0
Front n xs rest at = (front : List Stream) × (xs ≡ front ++ rest) × (at ≡ length front) × AreOther n front

-- the next stream is of another number too
pub front_more : (n : ℕ) (xs rest back : List Stream) (s : Stream) (at : ℕ) → Front n xs rest at × (at + length rest ≤ length xs)
    → rest ≡ s ∷ back → (s.number == n) ≡ false → Front n xs back (at + 1) × (at + 1 + length back ≤ length xs)
front_more n xs rest back s at ((front, whole, place, are), fits) is not =
    let long : length rest ≡ length back + 1 = ap (λ (l : List Stream). length l) is ∙ omega arith in
    let sum = length_push front s in (
      (
        front ++ s ∷ [],
        whole ∙ ap (λ (l : List Stream). front ++ l) is ∙ sym (append_assoc front (s ∷ []) back),
        omega (arith, place, sum),
        other_more n front s are not,
      ),
      omega (arith, long, fits),
    )

-- the next stream is of the number
pub front_found : (n : ℕ) (xs rest back : List Stream) (s : Stream) (at : ℕ) → Front n xs rest at
    → rest ≡ s ∷ back → (s.number == n) ≡ true
    → (f b : List Stream) × (t : Stream) × (xs ≡ f ++ t ∷ b) × (at ≡ length f) × (find n (map stream_view xs) ≡ Some (stream_view t))
    × (others n (map stream_view xs) ≡ map stream_view (f ++ b))
front_found n xs rest back s at (front, whole, place, are) is this =
    let all : xs ≡ front ++ s ∷ back = whole ∙ ap (λ (l : List Stream). front ++ l) is in (
      front,
      back,
      s,
      all,
      place,
      ap (λ (l : List Stream). find n (map stream_view l)) all ∙ find_behind n front (s ∷ back) are
          ∙ ap (λ (b : Bool). if b then Some (stream_view s) else find n (map stream_view back)) this,
      ap (λ (l : List Stream). others n (map stream_view l)) all ∙ others_behind n front (s ∷ back) are
          ∙ ap (λ (b : Bool). map stream_view front ++ (if b then map stream_view back else stream_view s ∷ others n (map stream_view back))) this
          ∙ sym (map-append stream_view front back),
    )

-- no stream is of the number
pub front_none : (n : ℕ) (xs rest : List Stream) (at : ℕ) → Front n xs rest at → length rest ≡ 0
    → (find n (map stream_view xs) ≡ None) × (others n (map stream_view xs) ≡ map stream_view xs)
front_none n xs [] at (front, whole, place, are) none = (
  ap (λ (l : List Stream). find n (map stream_view l)) whole ∙ find_behind n front [] are,
  ap (λ (l : List Stream). others n (map stream_view l)) whole ∙ others_behind n front [] are
      ∙ sym (map-append stream_view front []) ∙ ap (λ (l : List Stream). map stream_view l) (sym whole),
)
front_none n xs (s ∷ rest) at front none = absurd (omega (arith, none))

-- what is removed from a place, and what stays
pub removed : (xs front back : List Stream) (s r : Stream) (k : ℕ) → xs ≡ front ++ s ∷ back → k ≡ length front → r ≡ get_or xs k r → r ≡ s
removed xs front back s r k whole place is =
    is ∙ ap₂ (λ (l : List Stream) (n : ℕ). get_or l n r) whole place ∙ at_place front back s r

pub stay : (xs new front back : List Stream) (s : Stream) (k : ℕ) → xs ≡ front ++ s ∷ back → k ≡ length front
    → new ≡ take k xs ++ drop (k + 1) xs → new ≡ front ++ back
stay xs new front back s k whole place is =
    is ∙ ap₂ (λ (l : List Stream) (n : ℕ). take n l ++ drop (n + 1) l) whole place
    ∙ ap₂ (λ (a b : List Stream). a ++ b) (before_place front back s) (after_place front back s)

-- the first call is taken out
pub first_out : (xs new : List Call) (r : Call) → 0 < length xs → r ≡ get_or xs 0 r → new ≡ take 0 xs ++ drop 1 xs
    → map call_view xs ≡ call_view r ∷ map call_view new
first_out [] new r some is rest = absurd (omega (arith, some))
first_out (x ∷ xs) new r some is rest =
    ap₂ (λ (c : Call) (cs : List Call). call_view c ∷ map call_view cs) (sym is) (sym rest)
