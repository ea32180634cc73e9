-- What is converted is within its size, and its charge is at most its cost.
use Rattle.std.proofs.Common.{◌≤◌, ◌^◌, ℕ, ℤ, pos, negsuc, nat_lt, Bool, true, false, cond, List, [], ◌∷◌, length, Some, None, ◌≡◌, refl, arith}
use Rattle.std.specs.Fmt.{decimal, signed_decimal}
use Rattle.std.specs.Str.{is_utf8}
use Rattle.std.proofs.lemmas.Str.{IsUtf8-from_is_utf8, encodes-chars}
use Rattle.cel_value.specs.Texts.{points_of}
use Rattle.cel_value.specs.Types.{ValueType}
use Rattle.cel_value.specs.Values.{CelAnswer, CelValue, bytes, fails, int, text, uint, value}
use Rattle.cel_value.specs.declared.error.CelError.TheVariants.{InvalidText, Range}
use Rattle.cel_ops.specs.Arithmetic.{is_int64}
use Rattle.cel_ops.specs.Charges.{conversion_charge, conversion_length}
use Rattle.cel_ops.specs.Conversions.{conversion, conversion_of, int_of_uint, text_of_bytes, text_of_int, text_of_uint}
use Rattle.cel_ops.specs.declared.conversion.Conversion.{Conversion}
use Rattle.cel_ops.specs.declared.operation.Operation.TheVariants as operations
use Rattle.cel_ops.proofs.Conversions.{int_text_short, uint_text_short}
use Rattle.cel_ops.proofs.Numbers.{int64_fits, uint64_below}
use Rattle.cel_overload.specs.Answers.{on_one}
use Rattle.cel_overload.specs.private.Charges.{charge_of_one}
use Rattle.cel_overload.specs.declared.overload.Overload.TheVariants as overloads
use Rattle.cel_costs.specs.Costs.{call_size, charge_at, conversion_cost, conversion_size}
use Rattle.cel_costs.specs.Sizes.{AllWithin, Fits, Flat, Size, Text, Within, most_of}
use Rattle.cel_costs.proofs.Joins.{length_within}
use Rattle.cel_costs.proofs.Scalars.{IfWithin, one_within}

-- ---- sizes

int_flat : (n : ℕ) → Within (int_of_uint n) Flat
int_flat n = at (nat_lt n (2 ^ 63))
  where
    at : (b : Bool) → Within (cond b (value (int (pos n))) (fails Range)) Flat
    at true = tt
    at false = tt

int_text : (i : ℤ) → IfWithin (text_of_int i) (Text 20)
int_text i = at (is_int64 i) refl
  where
    at : (b : Bool) → is_int64 i ≡ b
        → IfWithin (cond b (Some (value (text (signed_decimal i)))) None) (Text 20)
    at true e = int_text_short i (int64_fits i e)
    at false e = tt

uint_text : (n : ℕ) → IfWithin (text_of_uint n) (Text 20)
uint_text n = at (nat_lt n (2 ^ 64)) refl
  where
    at : (b : Bool) → nat_lt n (2 ^ 64) ≡ b
        → IfWithin (cond b (Some (value (text (decimal n)))) None) (Text 20)
    at true e = uint_text_short n (uint64_below n e)
    at false e = tt

-- the text of bytes has their length
bytes_text : (bs : List ℕ) (n : ℕ) → length bs ≤ n → Within (text_of_bytes bs) (Text n)
bytes_text bs n h = at (is_utf8 bs) refl
  where
    at : (b : Bool) → is_utf8 bs ≡ b
        → Within (cond b (value (text (points_of bs))) (fails InvalidText)) (Text n)
    at true e = rw (encodes-chars bs (IsUtf8-from_is_utf8 bs e)) h
    at false e = tt

value_converted : (kind : Conversion) (v : CelValue) (s : Size) → Fits v s
    → IfWithin (conversion_of kind v) (conversion_size kind s)
value_converted Conversion.UintToInt (uint n) s h = int_flat n
value_converted Conversion.UintToInt _ s h = tt
value_converted Conversion.IntToUint (int (pos n)) s h = tt
value_converted Conversion.IntToUint (int (negsuc n)) s h = tt
value_converted Conversion.IntToUint _ s h = tt
value_converted Conversion.IntToText (int i) s h = int_text i
value_converted Conversion.IntToText _ s h = tt
value_converted Conversion.UintToText (uint n) s h = uint_text n
value_converted Conversion.UintToText _ s h = tt
value_converted Conversion.BytesToText (bytes bs) s h = bytes_text bs (most_of s) (length_within (bytes bs) s h)
value_converted Conversion.BytesToText _ s h = tt
value_converted Conversion.TextToBytes (text cs) s h = length_within (text cs) s h
value_converted Conversion.TextToBytes _ s h = tt

-- what is converted is within its size
pub converted_within : (kind : Conversion) (answers : List CelAnswer) (sizes : List Size)
    → AllWithin answers sizes
    → IfWithin (on_one (conversion kind) answers) (call_size (overloads.Operate (operations.Convert kind)) sizes)
converted_within kind [] sizes h = tt
converted_within kind (a ∷ []) [] h = absurd h
converted_within kind (a ∷ []) (s ∷ []) h =
    one_within (conversion_of kind) s (conversion_size kind s) (λ v hv. value_converted kind v s hv) a h.0
converted_within kind (a ∷ []) (s ∷ t ∷ ss) h = absurd h.1
converted_within kind (a ∷ b ∷ answers) sizes h = tt

-- ---- charges

-- the charge of a conversion is 1 at least
pub conversion_some : (kind : Conversion) (ts : List ValueType) (sizes : List Size)
    → 1 ≤ charge_at (overloads.Operate (operations.Convert kind)) ts sizes
conversion_some kind ts [] = omega arith
conversion_some kind ts (s ∷ []) = omega arith
conversion_some kind ts (s ∷ t ∷ ss) = omega arith

length_paid : (kind : Conversion) (v : CelValue) (s : Size) → Fits v s
    → conversion_length kind v ≤ conversion_cost kind s
length_paid Conversion.UintToInt v s h = omega arith
length_paid Conversion.IntToUint v s h = omega arith
length_paid Conversion.IntToText v s h = omega arith
length_paid Conversion.UintToText v s h = omega arith
length_paid Conversion.BytesToText v s h = length_within v s h
length_paid Conversion.TextToBytes v s h = length_within v s h

-- a conversion's charge is at most its cost
pub conversion_charged : (kind : Conversion) (answers : List CelAnswer) (ts : List ValueType)
    (sizes : List Size) → AllWithin answers sizes
    → charge_of_one (conversion_charge kind) answers
    ≤ charge_at (overloads.Operate (operations.Convert kind)) ts sizes
conversion_charged kind [] ts sizes h = conversion_some kind ts sizes
conversion_charged kind (fails e ∷ []) ts sizes h = conversion_some kind ts sizes
conversion_charged kind (value v ∷ []) ts [] h = absurd h
conversion_charged kind (value v ∷ []) ts (s ∷ []) h = let most = length_paid kind v s h.0 in omega (arith, most)
conversion_charged kind (value v ∷ []) ts (s ∷ t ∷ ss) h = absurd h.1
conversion_charged kind (a ∷ b ∷ answers) ts sizes h = conversion_some kind ts sizes
