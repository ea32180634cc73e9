-- Bytes behind what is kept: whether they are still less than a frame.
use Rattle.std.proofs.Common.{◌≡◌, inl, inr, ℕ, zero, suc, ◌-◌, ◌+◌, ◌<◌, ◌≤◌, List, [], ◌∷◌, ◌++◌, length, take, drop, ap, ◌∙◌, sym, arith, append_assoc, length-append}
use Rattle.std.specs.Prelude.{true, false, nat_lt, MatchBool}
use Rattle.std.proofs.lemmas.Bool.{cases_lt, lt-ltb, le-ltb}
use Rattle.std.proofs.lemmas.List.{length-take-le, take-append-drop}
use Rattle.xds_wire.specs.Frames.{head_of, frames_of, IsLength, IsBeginning, part_of_message, Cut, Tail}
use Rattle.xds_wire.proofs.OneCut.{begins_no_frame, heads_one}

-- fewer bytes than a message lacks
fewer_begin : (max n : ℕ) (part bytes : List ℕ) → IsLength max n → length part < n
    → length bytes < n - length part → IsBeginning max (head_of n ++ part ++ bytes)
fewer_begin max n part bytes fits short few =
    part_of_message n (part ++ bytes) fits (append_assoc (head_of n) part bytes)
    (omega (arith, length-append part bytes))

-- as many bytes as a message lacks
enough_do_not : (max n : ℕ) (part bytes : List ℕ) → IsLength max n → length part < n
    → n ≤ length part + length bytes → IsBeginning max (head_of n ++ part ++ bytes) → ⊥
enough_do_not max n part bytes fits short enough begins =
    let all : List ℕ = part ++ bytes in
    let there : n ≤ length all = omega (arith, length-append part bytes) in
    let message : List ℕ = take n all in
    let long : length message ≡ n = length-take-le n all there in
    let whole : head_of n ++ part ++ bytes ≡ head_of (length message) ++ message ++ drop n all =
    append_assoc (head_of n) part bytes ∙ ap (λ t. head_of n ++ t) (sym (take-append-drop n all))
    ∙ sym (append_assoc (head_of n) message (drop n all))
    ∙ ap (λ k. head_of k ++ message ++ drop n all) (sym long) in
    let allowed : IsLength max (length message) = rw long fits in
    begins_no_frame max message (drop n all) (head_of n ++ part ++ bytes) allowed whole begins

-- whether they are fewer
pub less_than_lacks : (max n : ℕ) (part bytes : List ℕ) → IsLength max n → length part < n
    → MatchBool (nat_lt (length bytes) (n - length part)) (IsBeginning max (head_of n ++ part ++ bytes))
    (IsBeginning max (head_of n ++ part ++ bytes) → ⊥)
less_than_lacks max n part bytes fits short =
    let lacking : ℕ = n - length part in
    elim (cases_lt (length bytes) lacking) [
      | inl few ↦
          let less : nat_lt (length bytes) lacking ≡ true = lt-ltb (length bytes) lacking few in
          rw less (fewer_begin max n part bytes fits short few)
      | inr many ↦
          let more : nat_lt (length bytes) lacking ≡ false = le-ltb (length bytes) lacking many in
          let enough : n ≤ length part + length bytes = omega arith in
          rw more (enough_do_not max n part bytes fits short enough)
    ]

-- ---- at most one frame

pub take_at_most : (n : ℕ) (xs : List ℕ) → length (take n xs) ≤ n
take_at_most zero xs = omega arith
take_at_most (suc n) [] = omega arith
take_at_most (suc n) (x ∷ xs) = let more = take_at_most n xs in omega (arith, more)

-- a second frame does not fit in the bytes of one head
pub one_of_head : (max : ℕ) (rest bytes : List ℕ) (messages : List (List ℕ)) (after : Tail)
    → length rest + length bytes ≤ 5 → Cut (rest ++ bytes) max messages after → length messages ≤ 1
one_of_head max rest bytes [] after few cut = omega arith
one_of_head max rest bytes (m ∷ []) after few cut = omega arith
one_of_head max rest bytes (m ∷ n ∷ messages) after few cut =
    absurd (omega (
      arith,
      few,
      length-append rest bytes,
      ap length cut.whole,
      length-append (m ++ frames_of (n ∷ messages)) cut.rest,
      length-append m (frames_of (n ∷ messages)),
    ))

-- nor in what a message lacks
pub one_of_data : (max n : ℕ) (part bytes : List ℕ) (messages : List (List ℕ)) (after : Tail) → IsLength max n
    → length part + length bytes ≤ n → Cut (head_of n ++ part ++ bytes) max messages after → length messages ≤ 1
one_of_data max n part bytes [] after fits few cut = omega arith
one_of_data max n part bytes (m ∷ []) after fits few cut = omega arith
one_of_data max n part bytes (m ∷ k ∷ messages) after fits few cut =
    let behind : List ℕ = (m ++ frames_of (k ∷ messages)) ++ cut.rest in
    let same = heads_one n (length m) (part ++ bytes) behind fits.0 cut.allowed.0.0 cut.whole in
    absurd (omega (
      arith,
      few,
      same.0,
      ap length same.1,
      length-append part bytes,
      length-append (m ++ frames_of (k ∷ messages)) cut.rest,
      length-append m (frames_of (k ∷ messages)),
    ))
