-- Bits in a row as the low bits of a number, and the table of short codes.
use Rattle.std.proofs.Common.{◌≡◌, ℕ, zero, suc, ◌+◌, ◌-◌, ◌*◌, ◌/◌, ◌%◌, ◌^◌, ◌<◌, ◌≤◌, Bool, true, false, cond, ◌&&◌, eqb, eqb-true, leb, leb-true, ltb, lt-ltb, List, [], ◌∷◌, ◌++◌, length, get_or, drop, refl, sym, ap, ap₂, subst, ◌∙◌, append_assoc, arith}
use Rattle.std.proofs.Math.Nat.{div-div-eq-div-mul, mod-lt}
use Rattle.std.proofs.Math.Pow.{mod-mod-pow}
use Rattle.std.proofs.lemmas.Bool.{and_parts}
use Rattle.std.proofs.lemmas.List.{append-nil, nil_from_length, length-drop}
use Rattle.std.proofs.lemmas.Nat.{pow-add, pow_pos, mod-pow-add, div-mul-add, mod-mul-add}
use Rattle.hpack.specs.Code.{huffman_code}
use Rattle.hpack.specs.Outcome.{Fails}
use Rattle.hpack.specs.Huffman.{low_bits, bits_of, code_of, walk, with_front}
use Rattle.hpack.specs.declared.fault.HpackError.{HpackError}
use Rattle.hpack.specs.declared.codes.TheConstants.{SHORT_CODES}
use Rattle.hpack.proofs.Below.{all_below, all_below-at}
use Rattle.hpack.proofs.HuffmanLemmas.{Reaches, with_front_more, low_bits_none, bits_more, bits_none}
use Rattle.hpack.proofs.HuffmanLaws.{walk_reach, reach_code}

-- ---- low bits

-- the low bits are those above a place, and then those below it
pub low_bits_split : (a b n : ℕ) → low_bits (a + b) n ≡ low_bits a (n / 2 ^ b) ++ low_bits b n
unfolding low_bits
low_bits_split zero b n =
    let e : 0 + b ≡ b = omega arith in
    ap (λ (k : ℕ). low_bits k n) e
low_bits_split (suc a) b n =
    let longer : suc a + b ≡ suc (a + b) = omega arith in
    let turned : a + b ≡ b + a = omega arith in
    let power : 2 ^ (a + b) ≡ 2 ^ b * 2 ^ a = ap (λ (k : ℕ). 2 ^ k) turned ∙ pow-add 2 b a in
    let e : n / 2 ^ (a + b) ≡ n / 2 ^ b / 2 ^ a =
    ap (λ (x : ℕ). n / x) power ∙ sym (div-div-eq-div-mul n (2 ^ b) (2 ^ a)) in
    ap (λ (k : ℕ). low_bits k n) longer
    ∙ ap₂ (λ (x : ℕ) (xs : List ℕ). (x % 2) ∷ xs) e (low_bits_split a b n)

low_bit_cut : (n j k : ℕ) → n % 2 ^ (suc j + k) / 2 ^ k % 2 ≡ n / 2 ^ k % 2
low_bit_cut n j k =
    let whole : n % 2 ^ (suc j + k) ≡ (n / 2 ^ k % 2 ^ suc j) * 2 ^ k + n % 2 ^ k = mod-pow-add n (suc j) k in
    let below : n % 2 ^ k < 2 ^ k = mod-lt n (pow_pos k) in
    let e : n % 2 ^ (suc j + k) / 2 ^ k ≡ n / 2 ^ k % 2 ^ suc j =
    ap (λ (x : ℕ). x / 2 ^ k) whole ∙ div-mul-add (n / 2 ^ k % 2 ^ suc j) (2 ^ k) (n % 2 ^ k) below in
    let longer : suc j ≡ j + 1 = omega arith in
    ap (λ (x : ℕ). x % 2) e
    ∙ ap (λ (x : ℕ). n / 2 ^ k % 2 ^ x % 2) longer
    ∙ mod-mod-pow (n / 2 ^ k) j 1

-- bits that are cut off above do not matter
low_bits_cut : (k j n : ℕ) → low_bits k (n % 2 ^ (j + k)) ≡ low_bits k n
unfolding low_bits
low_bits_cut zero j n = refl
low_bits_cut (suc k) j n =
    let e : j + suc k ≡ suc j + k = omega arith in
    ap (λ (m : ℕ). low_bits (suc k) (n % 2 ^ m)) e
    ∙ ap₂ (λ (x : ℕ) (xs : List ℕ). x ∷ xs) (low_bit_cut n j k) (low_bits_cut k (suc j) n)

pub low_bits_mod : (k m n : ℕ) → k ≤ m → low_bits k (n % 2 ^ m) ≡ low_bits k n
low_bits_mod k m n le =
    let e : m ≡ (m - k) + k = omega arith in
    ap (λ (x : ℕ). low_bits k (n % 2 ^ x)) e ∙ low_bits_cut k (m - k) n

-- an octet behind the bits so far
pub low_bits_octet : (count bits byte : ℕ) → count ≤ 56 → byte < 256
    → low_bits (count + 8) (bits % 72057594037927936 * 256 + byte) ≡ low_bits count bits ++ low_bits 8 byte
low_bits_octet count bits byte le octet =
    let n = bits % 72057594037927936 in
    let high : (n * 256 + byte) / 256 ≡ n = div-mul-add n 256 byte octet in
    let low : (n * 256 + byte) % 256 ≡ byte = mod-mul-add n 256 byte octet in
    low_bits_split count 8 (n * 256 + byte)
    ∙ ap₂ (λ (xs ys : List ℕ). xs ++ ys)
    (ap (low_bits count) high ∙ low_bits_mod count 56 bits le)
    (sym (low_bits_mod 8 8 (n * 256 + byte) (omega arith)) ∙ ap (low_bits 8) low)

-- the next bit
pub low_bits_bit : (left bits : ℕ) → 0 < left
    → low_bits left bits ≡ (bits / 2 ^ (left - 1) % 2) ∷ low_bits (left - 1) bits
unfolding low_bits
low_bits_bit left bits some =
    let e : left ≡ suc (left - 1) = omega arith in
    ap (λ (k : ℕ). low_bits k bits) e

-- ---- the table of short codes: 256 entries

-- an entry's symbol has a code that is the front of the octet and as long as the entry says
abbrev fits_octet : ℕ → ℕ → Bool
fits_octet v code =
    leb (code / 256) 8
    && (leb 1 (code / 256)
    && (eqb (get_or huffman_code (code % 256) (0, 0)).1 (code / 256)
    && eqb (get_or huffman_code (code % 256) (0, 0)).0 (v / 2 ^ (8 - code / 256))))

-- that, or the entry is 0
unfoldable entry_ok : ℕ → Bool
entry_ok v = cond (ltb 0 (get_or SHORT_CODES v 0)) (fits_octet v (get_or SHORT_CODES v 0)) true

entries_ok : all_below entry_ok 256 ≡ true
unfolding all_below entry_ok huffman_code
entries_ok = refl

-- an octet begins with the code of a symbol
pub record Begins (v code : ℕ) : Type 0 where
  pub short : code / 256 ≤ 8
  pub some : 1 ≤ code / 256
  pub spells : low_bits (code / 256) (v / 2 ^ (8 - code / 256)) ≡ code_of (code % 256)

cond_true : (t x : Bool) → t ≡ true → cond t x true ≡ true → x ≡ true
cond_true true x e h = h
cond_true false x e h = absurd cc

pub begins : (v : ℕ) → v < 256 → 0 < get_or SHORT_CODES v 0 → Begins v (get_or SHORT_CODES v 0)
unfolding entry_ok
begins v small some =
    let code = get_or SHORT_CODES v 0 in
    let h : entry_ok v ≡ true = all_below-at entry_ok 256 v entries_ok small in
    let a = and_parts _ _ (cond_true (ltb 0 code) (fits_octet v code) (lt-ltb 0 code some) h) in
    let b = and_parts _ _ a.1 in
    let c = and_parts _ _ b.1 in
    record {
      short = leb-true _ _ a.0;
      some = leb-true _ _ b.0;
      spells = sym (ap₂ (λ (k n : ℕ). low_bits k n) (eqb-true _ _ c.0) (eqb-true _ _ c.1));
    }

-- an entry that is not 0
begins_with : (v code : ℕ) → v < 256 → code ≡ get_or SHORT_CODES v 0 → 0 < code → Begins v code
begins_with v code small is some =
    subst (λ (k : ℕ). Begins v k) (sym is) (begins v small (subst (λ (k : ℕ). 0 < k) is some))

-- the next bits, with a code of so many bits in front
next_bits : (left bits long : ℕ) → 8 ≤ left → long ≤ 8
    → low_bits left bits ≡ low_bits long (bits / 2 ^ (left - 8) % 256 / 2 ^ (8 - long)) ++ low_bits (left - long) bits
next_bits left bits long enough le =
    let v = bits / 2 ^ (left - 8) % 256 in
    let whole : left ≡ 8 + (left - 8) = omega arith in
    let octet : 8 ≡ long + (8 - long) = omega arith in
    let rest : left - long ≡ (8 - long) + (left - 8) = omega arith in
    let back : low_bits (left - long) bits ≡ low_bits (8 - long) v ++ low_bits (left - 8) bits =
    ap (λ (k : ℕ). low_bits k bits) rest
    ∙ low_bits_split (8 - long) (left - 8) bits
    ∙ ap (λ (xs : List ℕ). xs ++ low_bits (left - 8) bits) (sym (low_bits_mod (8 - long) 8 (bits / 2 ^ (left - 8)) (omega arith))) in
    let front : low_bits 8 (bits / 2 ^ (left - 8)) ≡ low_bits long (v / 2 ^ (8 - long)) ++ low_bits (8 - long) v =
    sym (low_bits_mod 8 8 (bits / 2 ^ (left - 8)) (omega arith))
    ∙ ap (λ (k : ℕ). low_bits k v) octet
    ∙ low_bits_split long (8 - long) v in
    ap (λ (k : ℕ). low_bits k bits) whole
    ∙ low_bits_split 8 (left - 8) bits
    ∙ ap (λ (xs : List ℕ). xs ++ low_bits (left - 8) bits) front
    ∙ append_assoc (low_bits long (v / 2 ^ (8 - long))) (low_bits (8 - long) v) (low_bits (left - 8) bits)
    ∙ ap (λ (xs : List ℕ). low_bits long (v / 2 ^ (8 - long)) ++ xs) (sym back)

-- a short code from the root
pub passes_code : (front after : List ℕ) (bits left code : ℕ) (more : List ℕ)
    → 8 ≤ left
    → code ≡ get_or SHORT_CODES (bits / 2 ^ (left - 8) % 256) 0
    → 0 < code
    → after ≡ front ++ (code % 256) ∷ []
    → with_front front (walk 0 (low_bits left bits ++ more))
    ≡ with_front after (walk 0 (low_bits (left - code / 256) bits ++ more))
passes_code front after bits left code more enough is some pushed =
    let v = bits / 2 ^ (left - 8) % 256 in
    let known = begins_with v code (omega arith) is some in
    let rest = low_bits (left - code / 256) bits ++ more in
    let split : low_bits left bits ++ more ≡ code_of (code % 256) ++ rest =
    ap (λ (xs : List ℕ). xs ++ more) (next_bits left bits (code / 256) enough known.short)
    ∙ ap (λ (xs : List ℕ). (xs ++ low_bits (left - code / 256) bits) ++ more) known.spells
    ∙ append_assoc (code_of (code % 256)) (low_bits (left - code / 256) bits) more in
    let octet : code % 256 < 256 = omega arith in
    ap (λ (xs : List ℕ). with_front front (walk 0 xs)) split
    ∙ ap (with_front front) (walk_reach (code_of (code % 256)) 0 (code % 256) rest (omega arith) octet (reach_code (code % 256) octet))
    ∙ with_front_more front (code % 256) (walk 0 rest)
    ∙ ap (λ (t : List ℕ). with_front t (walk 0 rest)) (sym pushed)

pub passes_length : (bits left code : ℕ) → code ≡ get_or SHORT_CODES (bits / 2 ^ (left - 8) % 256) 0 → 0 < code
    → (1 ≤ code / 256) × (code / 256 ≤ 8)
passes_length bits left code is some =
    let v = bits / 2 ^ (left - 8) % 256 in
    let known = begins_with v code (omega arith) is some in
    (known.some, known.short)

-- ---- loops over the bits of a number

-- one bit further, and what was written
pub passes_bit : (front after : List ℕ) (node next bits left : ℕ) (more : List ℕ)
    → 0 < left
    → with_front front (walk node ((bits / 2 ^ (left - 1) % 2) ∷ (low_bits (left - 1) bits ++ more)))
    ≡ with_front after (walk next (low_bits (left - 1) bits ++ more))
    → with_front front (walk node (low_bits left bits ++ more))
    ≡ with_front after (walk next (low_bits (left - 1) bits ++ more))
passes_bit front after node next bits left more some turned =
    ap (λ (xs : List ℕ). with_front front (walk node (xs ++ more))) (low_bits_bit left bits some) ∙ turned

pub fails_on_bit : (e : HpackError) (node bits left : ℕ) (more : List ℕ)
    → 0 < left
    → Fails e (walk node ((bits / 2 ^ (left - 1) % 2) ∷ (low_bits (left - 1) bits ++ more)))
    → Fails e (walk node (low_bits left bits ++ more))
fails_on_bit e node bits left more some fails =
    subst (λ (xs : List ℕ). Fails e (walk node (xs ++ more))) (sym (low_bits_bit left bits some)) fails

-- the same where no bits follow
pub passes_last : (front after : List ℕ) (node next bits left : ℕ)
    → 0 < left
    → with_front front (walk node ((bits / 2 ^ (left - 1) % 2) ∷ low_bits (left - 1) bits))
    ≡ with_front after (walk next (low_bits (left - 1) bits))
    → with_front front (walk node (low_bits left bits)) ≡ with_front after (walk next (low_bits (left - 1) bits))
passes_last front after node next bits left some turned =
    ap (λ (xs : List ℕ). with_front front (walk node xs)) (low_bits_bit left bits some) ∙ turned

pub fails_on_last : (e : HpackError) (node bits left : ℕ)
    → 0 < left
    → Fails e (walk node ((bits / 2 ^ (left - 1) % 2) ∷ low_bits (left - 1) bits))
    → Fails e (walk node (low_bits left bits))
fails_on_last e node bits left some fails =
    subst (λ (xs : List ℕ). Fails e (walk node xs)) (sym (low_bits_bit left bits some)) fails

pub ends_bits : (front written : List ℕ) (start count bits node left : ℕ)
    → left ≤ 0
    → Reaches front start (low_bits count bits) written node (low_bits left bits)
    → with_front written (walk node []) ≡ with_front front (walk start (low_bits count bits))
ends_bits front written start count bits node left le so_far =
    let none : left ≡ 0 = omega arith in
    sym
    (so_far
    ∙ ap (λ (k : ℕ). with_front written (walk node (low_bits k bits))) none
    ∙ ap (λ (xs : List ℕ). with_front written (walk node xs)) (low_bits_none bits))

-- ---- a loop over octets, whose bits are gathered in a number

-- the bits that are not yet read: those in the number, and those of the octets from a place on
abbrev pub unread : ℕ → ℕ → ℕ → List ℕ → List ℕ
unread bits count i bytes = low_bits count bits ++ bits_of (drop i bytes)

pub unread_first : (text bytes : List ℕ) → text ≡ []
    → Reaches [] 0 (bits_of bytes) text 0 (low_bits 0 0 ++ bits_of bytes)
unread_first text bytes empty =
    ap₂ (λ (t xs : List ℕ). with_front t (walk 0 (xs ++ bits_of bytes))) (sym empty) (sym (low_bits_none 0))

pub unread_more : (bytes : List ℕ) (bits count i byte : ℕ) → i < length bytes → count ≤ 56
    → byte ≡ get_or bytes i 0
    → byte < 256
    → unread bits count i bytes ≡ unread (bits % 72057594037927936 * 256 + byte) (count + 8) (i + 1) bytes
unread_more bytes bits count i byte lt le is octet =
    ap (λ (xs : List ℕ). low_bits count bits ++ xs) (bits_more bytes i lt)
    ∙ ap (λ (b : ℕ). low_bits count bits ++ (low_bits 8 b ++ bits_of (drop (i + 1) bytes))) (sym is)
    ∙ sym (append_assoc (low_bits count bits) (low_bits 8 byte) (bits_of (drop (i + 1) bytes)))
    ∙ ap (λ (xs : List ℕ). xs ++ bits_of (drop (i + 1) bytes)) (sym (low_bits_octet count bits byte le octet))

pub unread_end : (bytes : List ℕ) (bits count i : ℕ) → length bytes ≤ i
    → unread bits count i bytes ≡ low_bits count bits
unread_end bytes bits count i le =
    let none : drop i bytes ≡ [] = nil_from_length (drop i bytes) (omega (arith, length-drop i bytes)) in
    ap (λ (xs : List ℕ). low_bits count bits ++ bits_of xs) none
    ∙ ap (λ (xs : List ℕ). low_bits count bits ++ xs) bits_none
    ∙ append-nil (low_bits count bits)
