-- The table of how a text ends: fewer than eight bits behind a whole code.
use Rattle.std.proofs.Common.{◌≡◌, ℕ, ◌+◌, ◌*◌, ◌/◌, ◌%◌, ◌<◌, ◌≤◌, Bool, true, false, ◌&&◌, eqb, eqb-true, leb, leb-true, ltb, ltb-true, List, [], ◌∷◌, ◌++◌, get_or, Result, Ok, Err, refl, sym, ap, subst, ◌∙◌, arith}
use Rattle.std.proofs.lemmas.Bool.{and_parts}
use Rattle.std.proofs.lemmas.List.{append-nil}
use Rattle.std.proofs.lemmas.Nat.{div-mul-add, mod-mul-add}
use Rattle.hpack.specs.Huffman.{low_bits, child_of, walk, with_front}
use Rattle.hpack.specs.declared.fault.Fault.{Fault}
use Rattle.hpack.specs.declared.fault.Fault.TheVariants.{Truncated, LongInteger, BadHuffman, BadIndex, LateResize, LargeTable}
use Rattle.hpack.specs.declared.codes.TheConstants.{ENDS}
use Rattle.hpack.proofs.Below.{all_below, all_below-at}
use Rattle.hpack.proofs.HuffmanLemmas.{ok_text}
use Rattle.hpack.proofs.Windows.{low_bits_mod}

-- what was read is what an entry says
abbrev is_end : Result (List ℕ) Fault → ℕ → Bool
is_end (Ok []) e = leb 256 e && ltb e 512
is_end (Ok (s ∷ [])) e = eqb s e && ltb e 256
is_end (Ok (s ∷ t ∷ text)) e = false
is_end (Err Truncated) e = false
is_end (Err LongInteger) e = false
is_end (Err BadHuffman) e = leb 512 e
is_end (Err BadIndex) e = false
is_end (Err LateResize) e = false
is_end (Err LargeTable) e = false

unfoldable end_ok : ℕ → Bool
end_ok p = is_end (walk 0 (low_bits (p / 128) (p % 128))) (get_or ENDS p 0)

-- 1,024 entries
ends_ok : all_below end_ok 1024 ≡ true
unfolding all_below end_ok walk child_of low_bits
ends_ok = refl

end_at : (bits count : ℕ) → count < 8
    → is_end (walk 0 (low_bits count bits)) (get_or ENDS (count * 128 + bits % 128) 0) ≡ true
unfolding end_ok
end_at bits count few =
    let low = bits % 128 in
    let p = count * 128 + bits % 128 in
    let h : end_ok p ≡ true = all_below-at end_ok 1024 p ends_ok (omega arith) in
    let high : p / 128 ≡ count = div-mul-add count 128 (bits % 128) (omega arith) in
    let rem : p % 128 ≡ bits % 128 = mod-mul-add count 128 (bits % 128) (omega arith) in
    let same : low_bits (p / 128) (p % 128) ≡ low_bits count bits =
    ap (λ (k : ℕ). low_bits k (p % 128)) high
    ∙ ap (λ (n : ℕ). low_bits count n) rem
    ∙ low_bits_mod count 7 bits (omega arith) in
    subst (λ (xs : List ℕ). is_end (walk 0 xs) (get_or ENDS p 0) ≡ true) same h

end_with : (bits count end : ℕ) → count < 8 → end ≡ get_or ENDS (count * 128 + bits % 128) 0
    → is_end (walk 0 (low_bits count bits)) end ≡ true
end_with bits count end few is =
    subst (λ (k : ℕ). is_end (walk 0 (low_bits count bits)) k ≡ true) (sym is) (end_at bits count few)

symbol_end : (x : Result (List ℕ) Fault) (e : ℕ) → is_end x e ≡ true → e < 256 → x ≡ ok_text (e ∷ [])
symbol_end (Ok []) e h lt =
    let ge : 256 ≤ e = leb-true 256 e (and_parts _ _ h).0 in
    absurd (omega arith)
symbol_end (Ok (s ∷ [])) e h lt =
    let same : s ≡ e = eqb-true s e (and_parts _ _ h).0 in
    ap (λ (n : ℕ). ok_text (n ∷ [])) same
symbol_end (Ok (s ∷ t ∷ text)) e h lt = absurd cc
symbol_end (Err Truncated) e h lt = absurd cc
symbol_end (Err LongInteger) e h lt = absurd cc
symbol_end (Err BadHuffman) e h lt =
    let ge : 512 ≤ e = leb-true 512 e h in
    absurd (omega arith)
symbol_end (Err BadIndex) e h lt = absurd cc
symbol_end (Err LateResize) e h lt = absurd cc
symbol_end (Err LargeTable) e h lt = absurd cc

plain_end : (x : Result (List ℕ) Fault) (e : ℕ) → is_end x e ≡ true → 256 ≤ e → e < 512 → x ≡ ok_text []
plain_end (Ok []) e h ge lt = refl
plain_end (Ok (s ∷ [])) e h ge lt =
    let small : e < 256 = ltb-true e 256 (and_parts _ _ h).1 in
    absurd (omega arith)
plain_end (Ok (s ∷ t ∷ text)) e h ge lt = absurd cc
plain_end (Err Truncated) e h ge lt = absurd cc
plain_end (Err LongInteger) e h ge lt = absurd cc
plain_end (Err BadHuffman) e h ge lt =
    let large : 512 ≤ e = leb-true 512 e h in
    absurd (omega arith)
plain_end (Err BadIndex) e h ge lt = absurd cc
plain_end (Err LateResize) e h ge lt = absurd cc
plain_end (Err LargeTable) e h ge lt = absurd cc

bad_end : (x : Result (List ℕ) Fault) (e : ℕ) → is_end x e ≡ true → 512 ≤ e → x ≡ Err BadHuffman
bad_end (Ok []) e h ge =
    let small : e < 512 = ltb-true e 512 (and_parts _ _ h).1 in
    absurd (omega arith)
bad_end (Ok (s ∷ [])) e h ge =
    let small : e < 256 = ltb-true e 256 (and_parts _ _ h).1 in
    absurd (omega arith)
bad_end (Ok (s ∷ t ∷ text)) e h ge = absurd cc
bad_end (Err Truncated) e h ge = absurd cc
bad_end (Err LongInteger) e h ge = absurd cc
bad_end (Err BadHuffman) e h ge = refl
bad_end (Err BadIndex) e h ge = absurd cc
bad_end (Err LateResize) e h ge = absurd cc
bad_end (Err LargeTable) e h ge = absurd cc

-- ---- the last bits, with what was written

pub ends_symbol : (front after : List ℕ) (bits count end : ℕ) → count < 8
    → end ≡ get_or ENDS (count * 128 + bits % 128) 0
    → end < 256
    → after ≡ front ++ end ∷ []
    → with_front front (walk 0 (low_bits count bits)) ≡ Ok after
ends_symbol front after bits count end few is lt pushed =
    let h = end_with bits count end few is in
    ap (with_front front) (symbol_end (walk 0 (low_bits count bits)) end h lt)
    ∙ ap (λ (t : List ℕ). ok_text t) (sym pushed)

pub ends_plain : (front : List ℕ) (bits count end : ℕ) → count < 8
    → end ≡ get_or ENDS (count * 128 + bits % 128) 0
    → 256 ≤ end
    → end < 512
    → with_front front (walk 0 (low_bits count bits)) ≡ Ok front
ends_plain front bits count end few is ge lt =
    let h = end_with bits count end few is in
    ap (with_front front) (plain_end (walk 0 (low_bits count bits)) end h ge lt)
    ∙ ap (λ (t : List ℕ). ok_text t) (append-nil front)

pub ends_bad : (bits count end : ℕ) → count < 8
    → end ≡ get_or ENDS (count * 128 + bits % 128) 0
    → 512 ≤ end
    → walk 0 (low_bits count bits) ≡ Err BadHuffman
ends_bad bits count end few is ge =
    let h = end_with bits count end few is in
    bad_end (walk 0 (low_bits count bits)) end h ge
