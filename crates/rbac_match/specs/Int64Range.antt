-- Ranges of whole numbers: Envoy v3 `type/v3/range.proto`, Int64Range (start is in, end is not).
-- The numbers of texts: `config/route/v3/route_components.proto`, HeaderMatcher, `range_match`
-- (base 10, an optional plus or minus sign, then a sequence of digits).
use Rattle.std.specs.Prelude.{◌≡◌, ℕ, ◌^◌, Bool, false, ◌&&◌, List, length, Option, Some, None, ℤ, pos, negsuc, int_le, int_lt, nat_lt, if◌then◌else◌}
use Rattle.std.specs.Option.{option_map_or}
use Rattle.std.specs.Str.{all_ascii_digits}
use Rattle.std.specs.Str.Parse.{without_leading_sign, signed_digits_value}
use Rattle.proto_wire.specs.Values.{int64_at}
use Rattle.proto_wire.specs.Fields.{Wire}
use Rattle.proto_wire.specs.Messages.{IsMessage}
use Rattle.rbac_match.specs.Message.{range_field, range_keys}
use Rattle.rbac_match.specs.declared.int64_range.Int64Range.{Int64Range}

-- the number is from -2^63 to 2^63 - 1
abbrev pub is_int64 : ℤ → Bool
is_int64 (pos n) = nat_lt n (2 ^ 63)
is_int64 (negsuc n) = nat_lt n (2 ^ 63)

-- the number that the whole text spells, if it fits in 64 bits: at most one sign, then at least one decimal
-- digit
abbrev pub int64_in : List ℕ → Option ℤ
int64_in text =
    let digits = without_leading_sign text in let z = signed_digits_value 10 text in
    if nat_lt 0 (length digits) && (all_ascii_digits digits && is_int64 z) then Some z else None

-- whether the number is in the range
abbrev pub is_within : Int64Range → ℤ → Bool
is_within range z = int_le range.start z && int_lt z range.end

-- whether the whole text is a number of 64 bits in the range
abbrev pub range_holds : Int64Range → List ℕ → Bool
range_holds range text = option_map_or (is_within range) (int64_in text) false

-- the parts merge to an Int64Range of these bounds; all its faults are in its fields
abbrev pub IsRange : List (List ℕ) → Int64Range → Type 0
IsRange parts range = (fs : List Wire) × IsMessage range_keys parts fs
    × (range.start ≡ int64_at range_field.start fs) × (range.end ≡ int64_at range_field.end fs)
