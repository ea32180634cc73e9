-- Tests of a text: Envoy v3 `type/matcher/v3/string.proto`, StringMatcher.
use Rattle.std.specs.Prelude.{◌≡◌, ◌≢◌, ℕ, Bool, nat_eq, ◌||◌, ◌⊎◌, if◌then◌else◌, List, [], ◌∷◌, Option, Some, None}
use Rattle.std.specs.List.{starts_with, ends_with}
use Rattle.std.specs.Map.{keys_of}
use Rattle.std.specs.Str.{IsUtf8, bytes_eq, str_to_ascii_lowercase}
use Rattle.proto_wire.specs.Reading.{ReadFault, LacksMember}
use Rattle.proto_wire.specs.Values.{bool_at, bytes_at, Utf8Fault}
use Rattle.proto_wire.specs.Fields.{Wire}
use Rattle.proto_wire.specs.Messages.{IsMessage}
use Rattle.proto_wire.specs.declared.refusal.Refusal.{Refusal}
use Rattle.proto_wire.specs.declared.refusal.Refusal.TheVariants.{OutOfRange, Unsupported}
use Rattle.proto_wire.specs.declared.key.Key.{Key}
use Rattle.proto_wire.specs.Keys.{len_key, varint_key}
use Rattle.proto_wire.specs.Oneof.{last_number, member_in}
use Rattle.rbac_match.specs.declared.text.Pattern.{Pattern}
use Rattle.rbac_match.specs.declared.text.Pattern.TheVariants.{Exact, Prefix, Suffix, Contains}

-- ---- the meaning

-- a test that compares a text with the sought one, as bytes. With `ignore_case`, A to Z count as a to z, and
-- no other letter changes
pub record TextTest : Type 0 where
  pub pattern : Pattern
  pub sought : List ℕ
  pub ignore_case : Bool

-- the bytes to compare: in lower case, if the case is ignored
abbrev pub folded : Bool → List ℕ → List ℕ
folded ignore_case bytes = if ignore_case then str_to_ascii_lowercase bytes else bytes

-- the bytes contain the part: they begin with it, or the bytes after the first contain it
abbrev pub is_substring : List ℕ → List ℕ → Bool
is_substring part [] = starts_with nat_eq [] part
is_substring part (b ∷ bytes) = starts_with nat_eq (b ∷ bytes) part || is_substring part bytes

-- whether the bytes are, begin with, end with or contain the sought ones
abbrev pub pattern_holds : Pattern → List ℕ → List ℕ → Bool
pattern_holds Exact sought bytes = bytes_eq bytes sought
pattern_holds Prefix sought bytes = starts_with nat_eq bytes sought
pattern_holds Suffix sought bytes = ends_with nat_eq bytes sought
pattern_holds Contains sought bytes = is_substring sought bytes

-- whether the text passes the test
abbrev pub text_holds : TextTest → List ℕ → Bool
text_holds test bytes = let fold = folded test.ignore_case in
    pattern_holds test.pattern (fold test.sought) (fold bytes)

-- ---- the message

-- the numbers of the fields of a StringMatcher (`type.matcher.v3.StringMatcher`)
abbrev pub string_field : record { exact : ℕ; prefix : ℕ; suffix : ℕ; safe_regex : ℕ; ignore_case : ℕ; contains : ℕ }
string_field = record { exact = 1; prefix = 2; suffix = 3; safe_regex = 5; ignore_case = 6; contains = 7 }

-- the members of the oneof; a regular expression is not supported
abbrev pub string_members : List (Key × Option Pattern)
string_members = (len_key string_field.exact, Some Exact)
    ∷ (len_key string_field.prefix, Some Prefix) ∷ (len_key string_field.suffix, Some Suffix)
    ∷ (len_key string_field.safe_regex, None) ∷ (len_key string_field.contains, Some Contains) ∷ []

-- all fields of a StringMatcher
abbrev pub string_keys : List Key
string_keys = varint_key string_field.ignore_case ∷ keys_of string_members

-- a prefix, a suffix and a contained text are not empty; an exact text may be
abbrev pub IsFilled : Pattern → List ℕ → Type 0
IsFilled Exact sought = Unit {0}
IsFilled pattern sought = sought ≢ []

-- the bytes may be sought by this pattern
abbrev pub IsSought : Pattern → List ℕ → Type 0
IsSought pattern bytes = IsUtf8 bytes × IsFilled pattern bytes

-- the payloads merge to a StringMatcher that means the test
pub record IsTextMatcher (parts : List (List ℕ)) (test : TextTest) : Type 0 where
  pub fields : List Wire
  pub number : ℕ
  pub message : IsMessage string_keys parts fields
  pub last : last_number (keys_of string_members) fields ≡ Some number
  pub pattern : member_in string_members number ≡ Some test.pattern
  pub sought : test.sought ≡ bytes_at number fields
  pub accepted : IsSought test.pattern test.sought
  pub case : test.ignore_case ≡ bool_at string_field.ignore_case fields

-- ---- the faults

-- a fault of a sought text; a regular expression is not supported
abbrev pub SoughtFault : Option Pattern → List ℕ → Refusal → Type 0
SoughtFault None bytes e = e ≡ Unsupported
SoughtFault (Some pattern) bytes e =
    Utf8Fault bytes e ⊎ ((e ≡ OutOfRange) × ¬ IsFilled pattern bytes)

-- a fault of a StringMatcher: in its fields, that it has no member, or in its last member
abbrev pub TextFault : List (List ℕ) → Refusal → Type 0
TextFault = ReadFault string_keys (LacksMember string_members)
    (λ fs e. (n : ℕ) × (last_number (keys_of string_members) fs ≡ Some n)
    × SoughtFault (member_in string_members n) (bytes_at n fs) e)
