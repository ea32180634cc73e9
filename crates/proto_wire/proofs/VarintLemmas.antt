-- Varints on lists alone: one spelling, one fault, never both, and always one of the two.
use Rattle.std.proofs.Common.{◌≡◌, ℕ, zero, suc, ◌+◌, ◌*◌, ◌%◌, ◌^◌, ◌<◌, ◌≤◌, ◌⊎◌, List, [], ◌∷◌, ◌++◌, length, take, drop, get_or, refl, sym, ap, ◌∙◌, arith, inl, inr}
use Rattle.std.specs.List.{AllByRecursion}
use Rattle.std.proofs.Math.Nat.{pow-succ', pow-le-pow_right}
use Rattle.std.proofs.lemmas.Bool.{cases_lt}
use Rattle.std.proofs.lemmas.Nat.{pow-add}
use Rattle.std.proofs.lemmas.List.{take_more, take_all, length-append, length-take-le, take-append-drop}
use Rattle.proto_wire.specs.Varint.{IsGroups, value_of, StartsVarint, FailsVarint, unfinished, too_long}
use Rattle.proto_wire.specs.declared.fault.WireError.{WireError}
use Rattle.proto_wire.specs.declared.fault.WireError.TheVariants.{Truncated, LongVarint}

-- each byte says that more follow
abbrev pub AllMore : List ℕ → Type 0
AllMore bytes = AllByRecursion (λ b. 128 ≤ b) bytes

-- ---- values

pub value_append : (a b : List ℕ) → value_of (a ++ b) ≡ value_of a + 128 ^ length a * value_of b
value_append [] b = omega arith
value_append (x ∷ a) b =
    let step = pow-succ' 128 (length a) in
    let more : 128 ^ suc (length a) * value_of b ≡ 128 * 128 ^ length a * value_of b =
    ap (λ n. n * value_of b) step in
    omega (arith, value_append a b)

pub value_below : (a : List ℕ) → value_of a < 128 ^ length a
value_below [] = omega arith
value_below (x ∷ a) = omega (arith, value_below a, pow-succ' 128 (length a))

-- seven bits a group
pub groups_bits : (i : ℕ) → 2 ^ (7 * i) ≡ 128 ^ i
groups_bits zero = refl
groups_bits (suc i) =
    let e : 7 * suc i ≡ 7 + 7 * i = omega arith in
    rw (e, pow-add 2 7 (7 * i)) (omega (arith, groups_bits i, pow-succ' 128 i))

pub value_more : (bytes : List ℕ) (i : ℕ) → i < length bytes
    → value_of (take (i + 1) bytes) ≡ value_of (take i bytes) + get_or bytes i 0 % 128 * 2 ^ (7 * i)
value_more bytes i within =
    let long = length-take-le i bytes (omega arith) in
    let e : 128 ^ length (take i bytes) ≡ 2 ^ (7 * i) = ap (λ n. 128 ^ n) long
    ∙ sym (groups_bits i) in
    let parts = value_append (take i bytes) (get_or bytes i 0 ∷ []) in
    rw (take_more bytes i 0 within, parts, e) (omega arith)

-- the value of the groups up to index i fits 64 bits
pub value_fits : (bytes : List ℕ) (i : ℕ) → i < length bytes → i ≤ 9
    → (i ≡ 9 → get_or bytes i 0 ≤ 1)
    → value_of (take (i + 1) bytes) < 2 ^ 64
value_fits bytes i within short last =
    let long = length-take-le i bytes (omega arith) in
    let below : value_of (take i bytes) < 128 ^ i = rw long at (value_below (take i bytes)) in
    elim (cases_lt i 9) [
      | inl lt ↦
          let long' = length-take-le (i + 1) bytes (omega arith) in
          let below' : value_of (take (i + 1) bytes) < 128 ^ (i + 1) =
          rw long' at (value_below (take (i + 1) bytes)) in
          omega (arith, pow-le-pow_right {n = 128} (omega arith) {i = i + 1} {j = 9} (omega arith))
      | inr ge ↦
          let nine : i ≡ 9 = omega arith in
          let one = last nine in
          let e : 2 ^ (7 * i) ≡ 2 ^ 63 = ap (λ n. 2 ^ (7 * n)) nine in
          let f : 128 ^ i ≡ 2 ^ 63 = ap (λ n. 128 ^ n) nine in
          let g : get_or bytes i 0 % 128 * 2 ^ (7 * i) ≡ get_or bytes i 0 % 128 * 2 ^ 63 =
          ap (λ n. get_or bytes i 0 % 128 * n) e in
          omega (arith, value_more bytes i within)
    ]

-- a step of a loop that adds the groups up: the shift loses no bit
pub value_step : (bytes : List ℕ) (i value low : ℕ) → i < length bytes → i ≤ 9
    → (i ≡ 9 → get_or bytes i 0 ≤ 1)
    → value ≡ value_of (take i bytes) → low ≡ get_or bytes i 0 % 128
    → value + low * 2 ^ (7 * i) % 2 ^ 64 ≡ value_of (take (i + 1) bytes)
value_step bytes i value low within short last v l =
    let sum = value_more bytes i within in
    let fits = value_fits bytes i within short last in
    let e : low * 2 ^ (7 * i) ≡ get_or bytes i 0 % 128 * 2 ^ (7 * i) =
    ap (λ n. n * 2 ^ (7 * i)) l in
    omega arith

-- ---- groups

pub groups_push : (a : List ℕ) (b : ℕ) → AllMore a → b < 128 → IsGroups (a ++ b ∷ [])
groups_push [] b more last = last
groups_push (x ∷ []) b more last = (more.0, last)
groups_push (x ∷ y ∷ a) b more last = (more.0, groups_push (y ∷ a) b more.1 last)

pub more_push : (a : List ℕ) (b : ℕ) → AllMore a → 128 ≤ b → AllMore (a ++ b ∷ [])
more_push [] b more high = (high, tt)
more_push (x ∷ a) b more high = (more.0, more_push a b more.1 high)

pub more_at : (bytes : List ℕ) (i : ℕ) → i < length bytes → AllMore (take i bytes)
    → 128 ≤ get_or bytes i 0 → AllMore (take (i + 1) bytes)
more_at bytes i within more high =
    rw (take_more bytes i 0 within) (more_push (take i bytes) (get_or bytes i 0) more high)

-- groups that begin one text are the same
pub groups_unique : (a b r s : List ℕ) → IsGroups a → IsGroups b → a ++ r ≡ b ++ s → (a ≡ b) × (r ≡ s)
groups_unique [] b r s ga gb e = absurd ga
groups_unique (x ∷ a) [] r s ga gb e = absurd gb
groups_unique (x ∷ []) (y ∷ []) r s ga gb e = (cc, cc)
groups_unique (x ∷ []) (y ∷ z ∷ b) r s ga gb e = let head : x ≡ y = cc in absurd (omega (arith, gb.0))
groups_unique (x ∷ w ∷ a) (y ∷ []) r s ga gb e = let head : x ≡ y = cc in absurd (omega (arith, ga.0))
groups_unique (x ∷ w ∷ a) (y ∷ z ∷ b) r s ga gb e =
    let tail : w ∷ (a ++ r) ≡ z ∷ (b ++ s) = cc in
    let more = groups_unique (w ∷ a) (z ∷ b) r s ga.1 gb.1 tail in
    let head : x ≡ y = cc in
    let same = more.0 in
    (cc, more.1)

-- groups end within any front that holds them
pub groups_end : (a r : List ℕ) (n : ℕ) → IsGroups a → length a ≤ n → AllMore (take n (a ++ r)) → ⊥
groups_end [] r n groups long more = absurd groups
groups_end (x ∷ []) r zero groups long more = absurd (omega arith)
groups_end (x ∷ []) r (suc n) groups long more = absurd (omega (arith, more.0))
groups_end (x ∷ y ∷ a) r zero groups long more = absurd (omega arith)
groups_end (x ∷ y ∷ a) r (suc n) groups long more =
    groups_end (y ∷ a) r n groups.1 (omega arith) more.1

-- the last group counts as many times as the groups below it can tell apart
pub last_counts : (a r : List ℕ) (n : ℕ) → IsGroups a → length a ≡ suc n
    → get_or (a ++ r) n 0 * 128 ^ n ≤ value_of a
last_counts [] r n groups long = absurd groups
last_counts (x ∷ []) r zero groups long = omega arith
last_counts (x ∷ []) r (suc n) groups long = absurd (omega arith)
last_counts (x ∷ y ∷ a) r zero groups long = absurd (omega arith)
last_counts (x ∷ y ∷ a) r (suc n) groups long =
    let below = last_counts (y ∷ a) r n groups.1 (omega arith) in
    let more : get_or (y ∷ (a ++ r)) n 0 * 128 ^ suc n
    ≡ get_or (y ∷ (a ++ r)) n 0 * (128 * 128 ^ n) =
    ap (λ p. get_or (y ∷ (a ++ r)) n 0 * p) (pow-succ' 128 n) in
    omega arith

-- ---- one reading

pub varint_unique : (bytes : List ℕ) (n m : ℕ) (r s : List ℕ) → StartsVarint bytes n r
    → StartsVarint bytes m s → (n ≡ m) × (r ≡ s)
varint_unique bytes n m r s a b =
    let joined = sym a.whole ∙ b.whole in
    let same = groups_unique a.spelling b.spelling r s a.spells.groups b.spells.groups joined in
    (a.spells.value ∙ ap value_of same.0 ∙ sym b.spells.value, same.1)

pub varint_disjoint : (bytes : List ℕ) (n : ℕ) (r : List ℕ) (e : WireError)
    → StartsVarint bytes n r → FailsVarint bytes e → ⊥
varint_disjoint bytes n r e a (unfinished short more is) =
    let whole = a.whole in
    let long : length a.spelling ≤ length bytes =
    omega (arith, ap length whole, length-append a.spelling r) in
    groups_end a.spelling r (length bytes) a.spells.groups long
    (rw (← whole, take_all (length bytes) bytes (omega arith)) more)
varint_disjoint bytes n r e a (too_long long more last is) =
    let whole = a.whole in
    let most = a.spells.short in
    elim (cases_lt 9 (length a.spelling)) [
      | inl lt ↦
          let counts = last_counts a.spelling r 9 a.spells.groups (omega arith) in
          let at : get_or (a.spelling ++ r) 9 0 ≡ get_or bytes 9 0 =
          ap (λ (t : List ℕ). get_or t 9 0) (sym whole) in
          omega (arith, a.spells.value, a.spells.fits)
      | inr le ↦ groups_end a.spelling r 9 a.spells.groups le (rw (← whole) more)
    ]

pub varint_fault_unique : (bytes : List ℕ) (e d : WireError) → FailsVarint bytes e
    → FailsVarint bytes d → e ≡ d
varint_fault_unique bytes e d (unfinished short more is) (unfinished short' more' is') = cc
varint_fault_unique bytes e d (unfinished short more is) (too_long long more' last is') =
    absurd (omega arith)
varint_fault_unique bytes e d (too_long long more last is) (unfinished short more' is') =
    absurd (omega arith)
varint_fault_unique bytes e d (too_long long more last is) (too_long long' more' last' is') = cc

-- ---- always a reading or a fault

-- a varint ends at index i
pub starts_at : (bytes : List ℕ) (i : ℕ) → i < length bytes → AllMore (take i bytes)
    → get_or bytes i 0 < 128
    → i ≤ 9 → (i ≡ 9 → get_or bytes i 0 ≤ 1)
    → StartsVarint bytes (value_of (take (i + 1) bytes)) (drop (i + 1) bytes)
starts_at bytes i within more low short last = record {
  spelling = take (i + 1) bytes;
  spells = record {
    groups = rw (take_more bytes i 0 within)
        (groups_push (take i bytes) (get_or bytes i 0) more low);
    short = omega (arith, length-take-le (i + 1) bytes (omega arith));
    value = refl;
    fits = value_fits bytes i within short last;
  };
  whole = sym (take-append-drop (i + 1) bytes);
}

-- the bytes end before a varint does
pub ends_inside : (bytes : List ℕ) (i : ℕ) → length bytes ≤ i → i ≤ 9 → AllMore (take i bytes)
    → FailsVarint bytes Truncated
ends_inside bytes i end short more =
    unfinished (omega arith) (rw (take_all i bytes end) at more) refl

-- a byte at index 9 that holds more than one bit
pub ends_late : (bytes : List ℕ) → 9 < length bytes → AllMore (take 9 bytes) → 1 < get_or bytes 9 0
    → FailsVarint bytes LongVarint
ends_late bytes within more high = too_long (omega arith) more high refl

-- what reading a varint comes to
abbrev pub VarintRead : List ℕ → Type 0
VarintRead bytes =
    ((n : ℕ) × (rest : List ℕ) × StartsVarint bytes n rest)
    ⊎ ((e : WireError) × FailsVarint bytes e)

varint_read_at : (left i : ℕ) (bytes : List ℕ) → i + left ≡ 9 → AllMore (take i bytes)
    → VarintRead bytes
varint_read_at zero i bytes e more =
    let nine : i ≡ 9 = omega arith in
    let more' : AllMore (take 9 bytes) = rw nine at more in
    elim (cases_lt 9 (length bytes)) [
      | inl lt ↦ elim (cases_lt 1 (get_or bytes 9 0)) [
        | inl high ↦ inr (LongVarint, ends_late bytes lt more' high)
        | inr low ↦
            let starts = starts_at bytes 9 lt more' (omega arith) (omega arith) (λ _. low) in
            inl (value_of (take 10 bytes), drop 10 bytes, starts)
      ]
      | inr le ↦ inr (Truncated, ends_inside bytes 9 le (omega arith) more')
    ]
varint_read_at (suc left) i bytes e more =
    elim (cases_lt i (length bytes)) [
      | inl lt ↦ elim (cases_lt (get_or bytes i 0) 128) [
        | inl low ↦
            let starts = starts_at bytes i lt more low (omega arith) (λ k. absurd (omega arith)) in
            inl (value_of (take (i + 1) bytes), drop (i + 1) bytes, starts)
        | inr high ↦ varint_read_at left (i + 1) bytes (omega arith) (more_at bytes i lt more high)
      ]
      | inr le ↦ inr (Truncated, ends_inside bytes i le (omega arith) more)
    ]

pub varint_total : (bytes : List ℕ) → VarintRead bytes
varint_total bytes = varint_read_at 9 0 bytes refl tt
