-- Conversions between uint, int, string and bytes: CEL language definition, "List of Standard Definitions" (`int`,
-- `uint`, `string` and `bytes`).
use Rattle.std.specs.Prelude.{ℕ, ℤ, pos, negsuc, ◌^◌, List, Option, Some, None, if◌then◌else◌, nat_lt}
use Rattle.std.specs.Fmt.{decimal, signed_decimal}
use Rattle.std.specs.Str.{is_utf8}
use Rattle.cel_value.specs.Values.{CelValue, int, uint, text, bytes, CelAnswer, value, fails}
use Rattle.cel_value.specs.Texts.{points_of, utf8_of}
use Rattle.cel_value.specs.Types.{ValueType, int_type, uint_type, text_type, bytes_type}
use Rattle.cel_value.specs.declared.error.CelError.TheVariants.{Range, InvalidText}
use Rattle.cel_ops.specs.Arithmetic.{is_int64}
use Rattle.cel_ops.specs.Strict.{strict}
use Rattle.cel_ops.specs.declared.conversion.Conversion.{Conversion}

-- a uint as an int; `Range` above 2^63 - 1
abbrev pub int_of_uint : ℕ → CelAnswer
int_of_uint n = if nat_lt n (2 ^ 63) then value (int (pos n)) else fails Range

-- an int as a uint; `Range` below 0
abbrev pub uint_of_int : ℤ → CelAnswer
uint_of_int (pos n) = value (uint n)
uint_of_int (negsuc n) = fails Range

-- the text of an int: its decimal digits with no leading zeros, after `-` if it is negative. None if the int does not
-- fit its 64 bits, so that no text has more than 20 bytes
abbrev pub text_of_int : ℤ → Option CelAnswer
text_of_int i = if is_int64 i then Some (value (text (signed_decimal i))) else None

-- the text of a uint: its decimal digits with no leading zeros; none if the uint does not fit its 64 bits
abbrev pub text_of_uint : ℕ → Option CelAnswer
text_of_uint n = if nat_lt n (2 ^ 64) then Some (value (text (decimal n))) else None

-- the text whose UTF-8 the bytes are; `InvalidText` if they are not UTF-8
abbrev pub text_of_bytes : List ℕ → CelAnswer
text_of_bytes bs = if is_utf8 bs then value (text (points_of bs)) else fails InvalidText

-- the UTF-8 of a text
abbrev pub bytes_of_text : List ℕ → CelAnswer
bytes_of_text cs = value (bytes (utf8_of cs))

-- a value, converted
abbrev pub conversion_of : Conversion → CelValue → Option CelAnswer
conversion_of Conversion.UintToInt (uint n) = Some (int_of_uint n)
conversion_of Conversion.IntToUint (int i) = Some (uint_of_int i)
conversion_of Conversion.IntToText (int i) = text_of_int i
conversion_of Conversion.UintToText (uint n) = text_of_uint n
conversion_of Conversion.BytesToText (bytes bs) = Some (text_of_bytes bs)
conversion_of Conversion.TextToBytes (text cs) = Some (bytes_of_text cs)
conversion_of _ _ = None

-- `int`, `uint`, `string` and `bytes`
abbrev pub conversion : Conversion → CelAnswer → Option CelAnswer
conversion kind a = strict (conversion_of kind) a

-- the type of values that are converted, and the type that they are converted to
abbrev pub conversion_types : Conversion → ValueType × ValueType
conversion_types Conversion.UintToInt = (uint_type, int_type)
conversion_types Conversion.IntToUint = (int_type, uint_type)
conversion_types Conversion.IntToText = (int_type, text_type)
conversion_types Conversion.UintToText = (uint_type, text_type)
conversion_types Conversion.BytesToText = (bytes_type, text_type)
conversion_types Conversion.TextToBytes = (text_type, bytes_type)

-- the first of them
abbrev pub converted_type : Conversion → ValueType
converted_type kind = (conversion_types kind).0

-- the second of them
abbrev pub conversion_type : Conversion → ValueType
conversion_type kind = (conversion_types kind).1

-- the answer is a text or bytes, which take memory
abbrev pub MakesText : Option CelAnswer → Type 0
MakesText (Some (value (text cs))) = Unit {0}
MakesText (Some (value (bytes bs))) = Unit {0}
MakesText _ = ⊥
