-- The texts of addresses spell them.
use Rattle.std.proofs.Common.{◌≡◌, ◌<◌, ◌≤◌, ◌^◌, ◌+◌, ◌*◌, ◌/◌, ◌%◌, ◌==◌, ◌&&◌, ◌||◌, ℕ, zero, suc, Bool, true, false, List, [], ◌∷◌, ◌++◌, length, not, slice_index, inl, inr, drop, refl, sym, ap, ap₂, ◌∙◌, arith, codes}
use Rattle.std.proofs.lemmas.Bool.{and_parts, cases_eq, eqb-true, not-true, or_parts}
use Rattle.std.proofs.lemmas.Nat.{from_be_bytes-to_be_bytes_4}
use Rattle.std.proofs.Math.Nat as nat
use Rattle.std.specs.Int.{w32, w128, byte_at, bytes_high_first, from_be_bytes, to_be_bytes}
use Rattle.std.specs.Char.{digit_value}
use Rattle.std.specs.List.{list_any}
use Rattle.std.specs.Net.Addr.{ipv4_bits, ipv6_bits, octets_of, segments_of}
use Rattle.std.specs.Net.Grammar.{IsColonHex, IsDotted, IsGroup, IsGroupsAfter}
use Rattle.std.specs.Net.Text.{ipv4_text}
use Rattle.attributes.specs.Address.{IsAddress, IsIpText, has_dot}
use Rattle.attributes.specs.declared.address.Ip.{Ip}
use Rattle.attributes.specs.declared.address.Ip.TheVariants.{V4, V6}
use Rattle.program_texts.specs.WrittenFacts.{colon_groups, ip_text}
use Rattle.hex.specs.Hex.{encode_lower, encode_with, lower_digits}

-- ---- IPv4

pub dotted : (n : ℕ) → n < 2 ^ 32 → IsDotted (ipv4_text (to_be_bytes w32 n)) (to_be_bytes w32 n)
dotted n fits = record {
  a = byte_at 3 n;
  b = byte_at 2 n;
  c = byte_at 1 n;
  d = byte_at 0 n;
  fit = (omega arith, omega arith, omega arith, omega arith);
  value = refl;
  spelled = refl;
}

-- ---- IPv6

byte_and_rest : (n p : ℕ) → n / p ≡ n / p % 256 + n / (p * 256) * 256
byte_and_rest n p = omega (arith, nat.div-div-eq-div-mul n p 256)

-- a number from its digits in base 256, the highest first
joined_16 : (d0 d1 d2 d3 d4 d5 d6 d7 d8 d9 d10 d11 d12 d13 d14 d15 n q1 q2 q3 q4 q5 q6 q7 q8 q9 q10 q11 q12 q13 q14 q15 : ℕ)
    → n ≡ d0 + q1 * 256
    → q1 ≡ d1 + q2 * 256
    → q2 ≡ d2 + q3 * 256
    → q3 ≡ d3 + q4 * 256
    → q4 ≡ d4 + q5 * 256
    → q5 ≡ d5 + q6 * 256
    → q6 ≡ d6 + q7 * 256
    → q7 ≡ d7 + q8 * 256
    → q8 ≡ d8 + q9 * 256
    → q9 ≡ d9 + q10 * 256
    → q10 ≡ d10 + q11 * 256
    → q11 ≡ d11 + q12 * 256
    → q12 ≡ d12 + q13 * 256
    → q13 ≡ d13 + q14 * 256
    → q14 ≡ d14 + q15 * 256
    → q15 ≡ d15
    → d15 * 1329227995784915872903807060280344576 + d14 * 5192296858534827628530496329220096 + d13 * 20282409603651670423947251286016 + d12 * 79228162514264337593543950336 + d11 * 309485009821345068724781056 + d10 * 1208925819614629174706176 + d9 * 4722366482869645213696 + d8 * 18446744073709551616 + d7 * 72057594037927936 + d6 * 281474976710656 + d5 * 1099511627776 + d4 * 4294967296 + d3 * 16777216 + d2 * 65536 + d1 * 256 + d0 ≡ n
joined_16 d0 d1 d2 d3 d4 d5 d6 d7 d8 d9 d10 d11 d12 d13 d14 d15 n q1 q2 q3 q4 q5 q6 q7 q8 q9 q10 q11 q12 q13 q14 q15 at_0 at_1 at_2 at_3 at_4 at_5 at_6 at_7 at_8 at_9 at_10 at_11 at_12 at_13 at_14 at_15 = omega arith

-- the 16 bytes of a number give it back
from_16_bytes : (n : ℕ) → n < 2 ^ 128 → from_be_bytes w128 (to_be_bytes w128 n) ≡ n
from_16_bytes n fits =
    let low : n ≡ n % 256 + n / 256 * 256 = omega arith in
    let high : n / 1329227995784915872903807060280344576 ≡ n / 1329227995784915872903807060280344576 % 256 = omega arith in
    joined_16 _ _ _ _ _ _ _ _ _ _ _ _ _ _ _ _ n _ _ _ _ _ _ _ _ _ _ _ _ _ _ _ low (byte_and_rest n 256) (byte_and_rest n 65536) (byte_and_rest n 16777216) (byte_and_rest n 4294967296) (byte_and_rest n 1099511627776) (byte_and_rest n 281474976710656) (byte_and_rest n 72057594037927936) (byte_and_rest n 18446744073709551616) (byte_and_rest n 4722366482869645213696) (byte_and_rest n 1208925819614629174706176) (byte_and_rest n 309485009821345068724781056) (byte_and_rest n 79228162514264337593543950336) (byte_and_rest n 20282409603651670423947251286016) (byte_and_rest n 5192296858534827628530496329220096) high

-- the digits at the places below n have their values, and are no dots
abbrev are_digits : ℕ → Bool
are_digits zero = true
are_digits (suc n) = ((digit_value (slice_index lower_digits n) == n) && not (slice_index lower_digits n == 46)) && are_digits n

digits_at : (n : ℕ) → are_digits n ≡ true → (d : ℕ) → d < n
    → (digit_value (slice_index lower_digits d) ≡ d) × ((slice_index lower_digits d == 46) ≡ false)
digits_at zero h d lt = absurd (omega arith)
digits_at (suc n) h d lt =
    let both = and_parts _ _ h in
    let here = and_parts _ _ both.0 in
    elim (cases_eq d n) [
      | inl same ↦ rw same (eqb-true _ _ here.0, not-true _ here.1)
      | inr other ↦ digits_at n both.1 d (omega arith)
    ]

digit_at : (d : ℕ) → d < 16 → (digit_value (slice_index lower_digits d) ≡ d) × ((slice_index lower_digits d == 46) ≡ false)
digit_at d lt = digits_at 16 refl d lt

-- the bytes are below 256
abbrev pub AreBytes : List ℕ → Type 0
AreBytes [] = Unit {0}
AreBytes (b ∷ bytes) = (b < 256) × AreBytes bytes

group : (a b : ℕ) → a < 256 → b < 256 → IsGroup (encode_lower (a ∷ b ∷ [])) (a * 256 + b)
unfolding encode_with
group a b fits_a fits_b =
    let p = (digit_at (a / 16) (omega arith)).0 in
    let q = (digit_at (a % 16) (omega arith)).0 in
    let r = (digit_at (b / 16) (omega arith)).0 in
    let s = (digit_at (b % 16) (omega arith)).0 in
    (((omega arith, (omega (arith, p), (omega (arith, q), (omega (arith, r), (omega (arith, s), tt))))), rw (p, q, r, s) (omega arith)), omega arith)

groups_after : (bytes : List ℕ) → AreBytes bytes → IsGroupsAfter true (codes ":") (colon_groups bytes) (segments_of bytes)
groups_after [] h = refl
groups_after (a ∷ []) h = refl
groups_after (a ∷ b ∷ bytes) h =
    inl (encode_lower (a ∷ b ∷ []), colon_groups bytes, refl, group a b h.0 h.1.0, groups_after bytes h.1.1)

-- the groups without the first colon
groups : (a b : ℕ) (bytes : List ℕ) → AreBytes (a ∷ b ∷ bytes)
    → IsGroupsAfter true [] (encode_lower (a ∷ b ∷ []) ++ colon_groups bytes) (segments_of (a ∷ b ∷ bytes))
groups a b bytes h = inl (encode_lower (a ∷ b ∷ []), colon_groups bytes, refl, group a b h.0 h.1.0, groups_after bytes h.1.1)

byte_fits : (k n : ℕ) → byte_at k n < 256
byte_fits zero n = omega arith
byte_fits (suc k) n = omega arith

bytes_fit : (k n : ℕ) → AreBytes (bytes_high_first k n)
bytes_fit zero n = tt
bytes_fit (suc k) n = (byte_fits k n, bytes_fit k n)

-- eight groups
pub colon_hex : (n : ℕ) → IsColonHex (drop 1 (colon_groups (to_be_bytes w128 n))) (segments_of (to_be_bytes w128 n))
colon_hex n = inl (groups _ _ (bytes_high_first 14 n) (bytes_fit 16 n), refl)

-- segments of an even number of bytes give them back
octets_back : (k n : ℕ) → octets_of (segments_of (bytes_high_first (k + k) n)) ≡ bytes_high_first (k + k) n
octets_back zero n = refl
octets_back (suc k) n =
    let two : suc k + suc k ≡ suc (suc (k + k)) = omega arith in
    let high = byte_fits (suc (k + k)) n in
    let low = byte_fits (k + k) n in
    rw two (ap₂ (λ a rest. a ∷ rest) (omega arith) (ap₂ (λ b rest. b ∷ rest) (omega arith) (octets_back k n)))

pub bits_back : (n : ℕ) → n < 2 ^ 128 → from_be_bytes w128 (octets_of (segments_of (to_be_bytes w128 n))) ≡ n
bits_back n fits = ap (from_be_bytes w128) (octets_back 8 n) ∙ from_16_bytes n fits

-- no dot
groups_no_dot : (bytes : List ℕ) → AreBytes bytes → has_dot (colon_groups bytes) ≡ false
unfolding encode_with
groups_no_dot [] h = refl
groups_no_dot (a ∷ []) h = refl
groups_no_dot (a ∷ b ∷ bytes) h =
    rw (
      (digit_at (a / 16) (omega (arith, h.0))).1,
      (digit_at (a % 16) (omega arith)).1,
      (digit_at (b / 16) (omega (arith, h.1.0))).1,
      (digit_at (b % 16) (omega arith)).1,
    ) (groups_no_dot bytes h.1.1)

pub no_dot : (n : ℕ) → has_dot (drop 1 (colon_groups (to_be_bytes w128 n))) ≡ false
no_dot n = groups_no_dot (to_be_bytes w128 n) (bytes_fit 16 n)

-- the text of an address spells it
pub spells_ip : (ip : Ip) → IsAddress ip → IsIpText (ip_text ip) ip
unfolding ipv4_bits ipv6_bits
spells_ip (V4 n) fits =
    (record { octets = to_be_bytes w32 n }, dotted n fits, sym (from_be_bytes-to_be_bytes_4 n fits))
spells_ip (V6 n) fits =
    (record { segments = segments_of (to_be_bytes w128 n) }, colon_hex n, no_dot n, sym (bits_back n fits))
