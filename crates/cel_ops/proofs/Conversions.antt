-- Conversions: texts of numbers are ASCII digits that read back to the number, and what is converted has its type.
use Rattle.std.proofs.Common.{arith, ◌≡◌, ◌==◌, ◌≤◌, ◌^◌, ℕ, zero, suc, ℤ, pos, negsuc, neg_ℤ, nat_lt, length, List, Some, [], ◌∷◌, Bool, true, false, cond, refl, ap, subst, sym, ◌∙◌}
use Rattle.std.specs.Prelude.{IsUtf8}
use Rattle.std.specs.Fmt.{decimal, signed_decimal}
use Rattle.std.specs.Str.{IsAscii, all_scalars, is_utf8}
use Rattle.std.specs.Str.Parse.{IsNumeral, digits_value, signed_digits_value}
use Rattle.std.proofs.Math.ListN.{get_or}
use Rattle.std.proofs.lemmas.Bool.Decides.{nat_tests}
use Rattle.std.proofs.lemmas.Fmt.{IsAscii-decimal, IsAscii-signed, decimal_digit, decimal_is_IsNumeral, first_decimal, length-decimal-le, length_signed_le}
use Rattle.std.proofs.lemmas.Str.{IsUtf8-from_ascii, IsUtf8-from_is_utf8, chars-IsAscii, encodes-IsAscii, scalars-chars, is_utf8-from_IsUtf8, chars-encodes}
use Rattle.std.proofs.lemmas.Str.Parse.{digit_from_value}
use Rattle.cel_value.specs.Texts.{AreScalars, points_of, utf8_of}
use Rattle.cel_value.specs.Types.{IsInt64, IsUint64, AnswerHasType, HasType, int_type, uint_type, text_type}
use Rattle.cel_value.specs.Values.{CelValue, int, uint, text, bytes, CelAnswer, value, fails}
use Rattle.cel_value.specs.declared.error.CelError.TheVariants.{InvalidText, Range}
use Rattle.cel_ops.specs.Conversions.{conversion, conversion_of, conversion_type, converted_type, int_of_uint, text_of_bytes, text_of_int, text_of_uint, uint_of_int}
use Rattle.cel_ops.specs.Typed.{Answers}
use Rattle.cel_ops.specs.declared.conversion.Conversion.{Conversion}
use Rattle.cel_ops.proofs.Numbers.{below_uint64, fits_int64, int64_fits}
use Rattle.cel_ops.proofs.Typing.{one}

-- ---- texts of numbers

pub int_ascii : (z : ℤ) → IsInt64 z → IsAscii (signed_decimal z)
int_ascii (pos n) h = IsAscii-signed (pos n) h.sfits
int_ascii (negsuc n) h = IsAscii-signed (negsuc n) h.sfits

-- an int and a uint have a text
pub int_text_is : (z : ℤ) → IsInt64 z → text_of_int z ≡ Some (value (text (signed_decimal z)))
int_text_is z h = rw (fits_int64 z h) refl

pub uint_text_is : (n : ℕ) → IsUint64 n → text_of_uint n ≡ Some (value (text (decimal n)))
uint_text_is n h = rw (below_uint64 n h) refl

-- ASCII bytes are the UTF-8 of themselves
ascii_length : (bs : List ℕ) → IsAscii bs → length (utf8_of bs) ≡ length bs
ascii_length bs a = ap length (encodes-IsAscii bs a)

pub uint_text_short : (n : ℕ) → IsUint64 n → length (utf8_of (decimal n)) ≤ 20
uint_text_short n h =
    omega (arith, ascii_length (decimal n) (IsAscii-decimal n h), length-decimal-le 20 n (omega arith) (omega arith) h)

pub int_text_short : (z : ℤ) → IsInt64 z → length (utf8_of (signed_decimal z)) ≤ 20
int_text_short (pos n) h =
    omega (arith, ascii_length (signed_decimal (pos n)) (int_ascii (pos n) h), length_signed_le 19 (pos n) (omega (arith, h.sfits)) h.sfits)
int_text_short (negsuc n) h =
    omega (arith, ascii_length (signed_decimal (negsuc n)) (int_ascii (negsuc n) h), length_signed_le 19 (negsuc n) (omega (arith, h.sfits)) h.sfits)

-- digits without a sign read as their number
plain : (ds : List ℕ) → IsNumeral 10 ds → signed_digits_value 10 ds ≡ pos (digits_value 10 ds)
plain [] numeral = absurd (omega (arith, numeral.0))
plain (c ∷ cs) numeral =
    let digit = digit_from_value c numeral.1.0 in
    let minus : (c == 45) ≡ false = grind (arith, nat_tests) in
    let plus : (c == 43) ≡ false = grind (arith, nat_tests) in
    rw (minus, plus) refl

pub int_text_reads : (z : ℤ) → IsInt64 z → signed_digits_value 10 (signed_decimal z) ≡ z
int_text_reads (pos n) h =
    let numeral = decimal_is_IsNumeral n (omega (arith, h.sfits)) in
    plain (decimal n) numeral.0 ∙ ap pos numeral.1
int_text_reads (negsuc n) h =
    ap (λ m. neg_ℤ (pos m)) (decimal_is_IsNumeral (suc n) (omega (arith, h.sfits))).1

-- only 0 begins with 0
pub no_leading_zero : (n : ℕ) (digits : List ℕ) → IsUint64 n → decimal n ≡ 48 ∷ digits → digits ≡ []
no_leading_zero zero digits h e = let same : 48 ∷ [] ≡ 48 ∷ digits = sym (decimal_digit 0 (omega arith)) ∙ e in cc
no_leading_zero (suc n) digits h e =
    let first : get_or (decimal (suc n)) 0 0 ≡ 48 = ap (λ ds. get_or ds 0 0) e in
    absurd (omega (arith, first_decimal (suc n) (omega arith) h))

-- ---- texts and bytes

pub not_utf8 : (bs : List ℕ) → (IsUtf8 bs → ⊥) → is_utf8 bs ≡ false
not_utf8 bs other = at (is_utf8 bs) refl
  where
    at : (b : Bool) → is_utf8 bs ≡ b → b ≡ false
    at true e = absurd (other (IsUtf8-from_is_utf8 bs e))
    at false e = refl

pub text_of_utf8 : (bs : List ℕ) → IsUtf8 bs → text_of_bytes bs ≡ value (text (points_of bs))
text_of_utf8 bs u = rw (is_utf8-from_IsUtf8 bs u) refl

pub text_of_other : (bs : List ℕ) → (IsUtf8 bs → ⊥) → text_of_bytes bs ≡ fails InvalidText
text_of_other bs other = rw (not_utf8 bs other) refl

pub text_of_its_bytes : (cs : List ℕ) → AreScalars cs → text_of_bytes (utf8_of cs) ≡ value (text cs)
text_of_its_bytes cs s =
    text_of_utf8 (utf8_of cs) (cs, (s, refl)) ∙ ap (λ ds. value (text ds)) (chars-encodes cs s)

-- ---- types

ascii_scalars : (bs : List ℕ) → IsAscii bs → AreScalars bs
ascii_scalars bs a =
    subst (λ cs. all_scalars cs ≡ true) (chars-IsAscii bs a) (scalars-chars bs (IsUtf8-from_ascii bs a))

int_typed : (n : ℕ) → AnswerHasType (int_of_uint n) int_type
int_typed n = at (nat_lt n (2 ^ 63)) refl
  where
    at : (b : Bool) → nat_lt n (2 ^ 63) ≡ b
        → AnswerHasType (cond b (value (int (pos n))) (fails Range)) int_type
    at true e = int64_fits (pos n) e
    at false e = tt

uint_typed : (z : ℤ) → IsInt64 z → AnswerHasType (uint_of_int z) uint_type
uint_typed (pos n) h = omega (arith, h.sfits)
uint_typed (negsuc n) h = tt

text_typed : (bs : List ℕ) → AnswerHasType (text_of_bytes bs) text_type
text_typed bs = at (is_utf8 bs) refl
  where
    at : (b : Bool) → is_utf8 bs ≡ b
        → AnswerHasType (cond b (value (text (points_of bs))) (fails InvalidText)) text_type
    at true e = scalars-chars bs (IsUtf8-from_is_utf8 bs e)
    at false e = tt

pub conversion_typed : (kind : Conversion) (a : CelAnswer) → AnswerHasType a (converted_type kind)
    → Answers (conversion kind a) (conversion_type kind)
conversion_typed kind a h =
    one (conversion_of kind) (converted_type kind) (conversion_type kind) (values kind) a h
  where
    values : (kind : Conversion) (v : CelValue) → HasType v (converted_type kind)
        → Answers (conversion_of kind v) (conversion_type kind)
    values Conversion.UintToInt (uint n) h = int_typed n
    values Conversion.IntToUint (int z) h = uint_typed z h
    values Conversion.IntToText (int z) h = rw (int_text_is z h) (ascii_scalars (signed_decimal z) (int_ascii z h))
    values Conversion.UintToText (uint n) h = rw (uint_text_is n h) (ascii_scalars (decimal n) (IsAscii-decimal n h))
    values Conversion.BytesToText (bytes bs) h = text_typed bs
    values Conversion.TextToBytes (text cs) h = tt
    values Conversion.UintToInt _ h = absurd h
    values Conversion.IntToUint _ h = absurd h
    values Conversion.IntToText _ h = absurd h
    values Conversion.UintToText _ h = absurd h
    values Conversion.BytesToText _ h = absurd h
    values Conversion.TextToBytes _ h = absurd h
