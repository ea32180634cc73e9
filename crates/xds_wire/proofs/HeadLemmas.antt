-- What a head's bytes say: five bytes that begin with 0 are the head of one length.
use Rattle.std.proofs.Common.{◌≡◌, ℕ, zero, suc, ◌+◌, ◌*◌, ◌<◌, ◌≤◌, List, [], ◌∷◌, ◌++◌, length, take, get_or, refl, ap, ◌∙◌, sym, arith}
use Rattle.std.proofs.lemmas.List.{take_all, length-take-le}
use Rattle.std.proofs.lemmas.Nat.{be_bytes_4}
use Rattle.xds_wire.specs.Frames.{head_of, Breaks, compressed, IsBeginning, nothing, part_of_head}
use Rattle.xds_wire.specs.declared.fault.FrameFault.TheVariants.{Compressed}

-- the bytes of a head, when all five have come
pub whole_head : (head : List ℕ) (count n : ℕ) → length head ≡ 5 → 5 ≤ count
    → get_or head 0 0 ≡ 0 → ((i : ℕ) → get_or head i 0 < 256)
    → n ≡ get_or head 1 0 * 16777216 + get_or head 2 0 * 65536 + get_or head 3 0 * 256 + get_or head 4 0
    → take count head ≡ head_of n
whole_head [] count n five all flag small is = absurd (omega arith)
whole_head (z ∷ size) count n five all flag small is =
    let four : length size ≡ 4 = omega arith in
    let bytes = be_bytes_4 size n four (λ i. small (suc i)) is in
    take_all count (z ∷ size) (omega arith)
    ∙ ap (λ t. t ∷ size) flag ∙ ap (λ t. 0 ∷ t) (sym bytes)

-- a first byte that is not 0
pub breaks_compressed : (max : ℕ) (head : List ℕ) (count : ℕ) (rest bytes : List ℕ) → 0 < count
    → 0 < length head → (get_or head 0 0 ≡ 0 → ⊥) → take count head ++ rest ≡ bytes
    → Breaks max bytes Compressed
breaks_compressed max [] count rest bytes some long flag whole = absurd (omega arith)
breaks_compressed max (z ∷ size) zero rest bytes some long flag whole = absurd (omega arith)
breaks_compressed max (z ∷ size) (suc count) rest bytes some long flag whole =
    compressed z (take count size ++ rest) (sym whole) flag refl

-- less than a head
pub begins_head : (max : ℕ) (head : List ℕ) (count : ℕ) (bytes : List ℕ) → length head ≡ 5
    → count < 5 → (0 < count → get_or head 0 0 ≡ 0) → take count head ≡ bytes
    → IsBeginning max bytes
begins_head max head zero bytes five few flag whole = nothing (sym whole)
begins_head max [] (suc count) bytes five few flag whole = absurd (omega arith)
begins_head max (z ∷ size) (suc count) bytes five few flag whole =
    part_of_head (take count size)
    (sym whole ∙ ap (λ t. t ∷ take count size) (flag (omega arith)))
    (omega (arith, length-take-le count size (omega arith)))
