-- The numbers that texts spell: what is read of them is what `parse` gives.
use Rattle.std.proofs.Common.{◌≡◌, ℕ, ◌^◌, ◌&&◌, ◌↔◌, Bool, true, List, length, Some, None, ℤ, pos, negsuc, nat_lt, Result, Ok, Err, refl, sym, ap, subst, inl, inr}
use Rattle.std.specs.Prelude.{FitsSigned}
use Rattle.std.specs.Result.{result_ok}
use Rattle.std.specs.Int.{w64}
use Rattle.std.specs.Str.{all_ascii_digits}
use Rattle.std.specs.Str.Parse.{IsNumeral, ParsesSigned, digits_value, signed_digits_value, without_leading_sign}
use Rattle.std.proofs.lemmas.Bool.{cases_Bool, and_parts, and_from, ltb-true, lt-ltb}
use Rattle.std.proofs.lemmas.Str.Parse.{IsNumeralModel, numerals_by_value, tells_all_ascii_digits}
use Rattle.rbac_match.specs.Int64Range.{is_int64, int64_in}

-- a test of digits says that they are some
own : IsNumeralModel (λ ds. all_ascii_digits ds ≡ true) (digits_value 10)
own = numerals_by_value _ tells_all_ascii_digits

-- a number has 64 bits where the test says so
fits_from : (z : ℤ) → is_int64 z ≡ true → FitsSigned w64 z
fits_from (pos n) e = record { sfits = ltb-true n (2 ^ 63) e }
fits_from (negsuc n) e = record { sfits = ltb-true n (2 ^ 63) e }

fits_to : (z : ℤ) → FitsSigned w64 z → is_int64 z ≡ true
fits_to (pos n) fits = lt-ltb n (2 ^ 63) fits.sfits
fits_to (negsuc n) fits = lt-ltb n (2 ^ 63) fits.sfits

-- some decimal digits behind one sign or none, and a number of 64 bits
abbrev Spells : List ℕ → Type 0
Spells text = IsNumeral 10 (without_leading_sign text) × FitsSigned w64 (signed_digits_value 10 text)

-- the same as a test
abbrev spells : List ℕ → Bool
spells text = nat_lt 0 (length (without_leading_sign text))
    && (all_ascii_digits (without_leading_sign text) && is_int64 (signed_digits_value 10 text))

spells_from : (text : List ℕ) → spells text ≡ true → Spells text
spells_from text e =
    let digits = without_leading_sign text in
    let some = and_parts (nat_lt 0 (length digits)) _ e in
    let both = and_parts (all_ascii_digits digits) (is_int64 (signed_digits_value 10 text)) some.1 in
    ((ltb-true 0 (length digits) some.0, own.to digits both.0), fits_from (signed_digits_value 10 text) both.1)

spells_to : (text : List ℕ) → Spells text → spells text ≡ true
spells_to text ((some, are), fits) =
    let digits = without_leading_sign text in
    and_from (nat_lt 0 (length digits)) _ (lt-ltb 0 (length digits) some)
    (and_from (all_ascii_digits digits) _ (own.from digits are) (fits_to (signed_digits_value 10 text) fits))

-- `parse` gives the number of 64 bits that the text spells, and no other
pub parse_int64 : {E : Type 0} (text : List ℕ) (r : Result ℤ E) → ParsesSigned w64 10 text r
    → result_ok r ≡ int64_in text
parse_int64 text (Ok z) parses =
    let spelled : spells text ≡ true = spells_to text parses.0 in
    let value : z ≡ signed_digits_value 10 text = parses.1 in
    rw spelled (ap Some value)
parse_int64 text (Err e) parses = elim (cases_Bool (spells text)) [
  | inl spelled ↦ absurd (parses (spells_from text spelled))
  | inr other ↦ rw other refl
]

-- what is read of a text is what it spells
pub int64_is : (text : List ℕ) (z : ℤ) → (int64_in text ≡ Some z)
    ↔ (IsNumeral 10 (without_leading_sign text) × FitsSigned w64 z × (z ≡ signed_digits_value 10 text))
int64_is text z = (
  λ read. elim (cases_Bool (spells text)) [
    | inl spelled ↦
        let both = spells_from text spelled in
        let whole : Some (signed_digits_value 10 text) ≡ Some z = rw spelled at read in
        let value : signed_digits_value 10 text ≡ z = cc in
        let P : ℤ → Type 0 = FitsSigned w64 in
        (both.0, subst P value both.1, sym value)
    | inr other ↦ let none : None ≡ Some z = rw other at read in absurd cc
  ],
  λ (numeral, fits, value).
      (let P : ℤ → Type 0 = FitsSigned w64 in
      let spelled : spells text ≡ true = spells_to text (numeral, subst P value fits) in
      rw spelled (ap Some (sym value))),
)
