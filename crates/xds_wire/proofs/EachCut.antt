-- Bytes are cut in some way.
use Rattle.std.proofs.Common.{◌≡◌, ℕ, zero, suc, ◌<◌, ◌≤◌, ◌^◌, inl, inr, List, [], ◌∷◌, ◌++◌, length, take, drop, get_or, refl, ap, ap₂, ◌∙◌, sym, arith, append_assoc, All}
use Rattle.std.proofs.lemmas.List.{take-append-drop, length-take-le, length-drop, get_or_past}
use Rattle.std.proofs.lemmas.List.Elements.{All-take, All-drop, All-tail}
use Rattle.std.proofs.lemmas.Nat.{be_bytes_4}
use Rattle.std.proofs.lemmas.Bool.{cases_eq, cases_lt}
use Rattle.std.specs.Int.{w32, from_be_bytes}
use Rattle.xds_wire.specs.Frames.{head_of, frame_of, IsLength, nothing, part_of_head, part_of_message, compressed, too_long, IsTail, Tail, unfinished, broken, Cut}
use Rattle.xds_wire.specs.declared.fault.FrameFault.TheVariants.{Compressed, TooLong}
use Rattle.xds_wire.proofs.CutLemmas.{frames_none, frames_one, cut_of, cut_behind}

-- the number that four bytes spell has 32 bits
pub four_fit : (size : List ℕ) → ((i : ℕ) → get_or size i 0 < 256) → from_be_bytes w32 size < 2 ^ 32
four_fit size small = omega (arith, small 0, small 1, small 2, small 3)

-- what a list holds, also past its end
pub small_at : (bytes : List ℕ) → All (λ b. b < 256) bytes → (i : ℕ) → get_or bytes i 0 < 256
small_at bytes small i = elim (cases_lt i (length bytes)) [
  | inl within ↦ small i 0 within
  | inr past ↦ rw (get_or_past bytes i 0 past) (omega arith)
]

-- what is cut off the bytes
abbrev pub IsCut : List ℕ → ℕ → Type 0
IsCut bytes max = (messages : List (List ℕ)) × (tail : Tail) × Cut bytes max messages tail

-- bytes that no whole frame begins
only_tail : (bytes : List ℕ) (max : ℕ) (tail : Tail) → IsTail max bytes tail → IsCut bytes max
only_tail bytes max tail ends = ([], tail, cut_of bytes max [] bytes tail (frames_none bytes max) ends)

-- bytes that begin with a head, where shorter bytes are cut
each_behind_head : (bytes : List ℕ) (max n : ℕ) (behind : List ℕ) → n < 2 ^ 32
    → bytes ≡ head_of n ++ behind → ((m : ℕ) → IsCut (drop m behind) max) → IsCut bytes max
each_behind_head bytes max n behind fits is below = elim (cases_lt max n) [
  | inl long ↦ only_tail bytes max (broken TooLong) (too_long n behind is fits long refl)
  | inr allowed ↦ elim (cases_lt (length behind) n) [
    | inl short ↦ only_tail bytes max (unfinished bytes) (refl, part_of_message n behind (fits, allowed) is short)
    | inr enough ↦
        let message = take n behind in
        let more = below n in
        let long : length message ≡ n = length-take-le n behind enough in
        let whole : bytes ≡ frame_of message ++ drop n behind =
        is ∙ ap (λ t. head_of n ++ t) (sym (take-append-drop n behind))
        ∙ sym (append_assoc (head_of n) message (drop n behind))
        ∙ ap (λ k. head_of k ++ message ++ drop n behind) (sym long) in
        let allowed' : IsLength max (length message) = rw long (fits, allowed) in (
          message ∷ more.0,
          more.1,
          cut_behind bytes max (message ∷ []) more.0 (drop n behind) more.1
              (frames_one bytes max message (drop n behind) allowed' whole) more.2,
        )
  ]
]

each_within : (n : ℕ) (bytes : List ℕ) (max : ℕ) → length bytes ≤ n → All (λ b. b < 256) bytes → IsCut bytes max
each_within n [] max long small = only_tail [] max (unfinished []) (refl, nothing refl)
each_within zero (b ∷ size) max long small = absurd (omega arith)
each_within (suc n) (b ∷ size) max long small = elim (cases_eq b 0) [
  | inr some ↦ only_tail (b ∷ size) max (broken Compressed) (compressed b size refl some refl)
  | inl flag ↦ elim (cases_lt (length size) 4) [
    | inl short ↦
        only_tail (b ∷ size) max (unfinished (b ∷ size))
        (refl, part_of_head size (ap (λ t. t ∷ size) flag) short)
    | inr enough ↦
        let four = take 4 size in
        let behind = drop 4 size in
        let size_small : All (λ b. b < 256) size = All-tail (λ b. b < 256) b size small in
        let four_small = small_at four (All-take (λ b. b < 256) 4 size size_small) in
        let k = from_be_bytes w32 four in
        let spelt = be_bytes_4 four k (length-take-le 4 size enough) four_small refl in
        let is : b ∷ size ≡ head_of k ++ behind =
        ap₂ (λ (x : ℕ) (xs : List ℕ). x ∷ xs) flag (sym (take-append-drop 4 size))
        ∙ ap (λ t. 0 ∷ (t ++ behind)) (sym spelt) in
        each_behind_head (b ∷ size) max k behind (four_fit four four_small) is
        (λ m. each_within n (drop m behind) max
        (omega (arith, length-drop m behind, length-drop 4 size))
        (All-drop (λ b. b < 256) m behind (All-drop (λ b. b < 256) 4 size size_small)))
  ]
]

-- bytes are cut
pub cut_settled : (bytes : List ℕ) (max : ℕ) → All (λ b. b < 256) bytes → IsCut bytes max
cut_settled bytes max small = each_within (length bytes) bytes max (omega arith) small
