-- Tests of a request's header: Envoy v3 `config/route/v3/route_components.proto`, HeaderMatcher.
use Rattle.std.specs.Prelude.{◌≡◌, ◌≢◌, ◌⊎◌, ℕ, Bool, true, false, not, if◌then◌else◌, List, [], ◌∷◌, Option, Some, None}
use Rattle.std.specs.Map.{keys_of}
use Rattle.std.specs.Option.{is_some, option_or, option_map_or}
use Rattle.std.specs.Str.{IsUtf8, str_to_ascii_lowercase}
use Rattle.proto_wire.specs.Reading.{ReadFault, OneofFault, IsUnsupported}
use Rattle.proto_wire.specs.Values.{bool_at, bytes_at, payloads, Utf8Fault}
use Rattle.proto_wire.specs.Fields.{Wire}
use Rattle.proto_wire.specs.Oneof.{member_run, last_number, member_in}
use Rattle.proto_wire.specs.Messages.{IsMessage, MessageFault}
use Rattle.proto_wire.specs.declared.refusal.Refusal.{Refusal}
use Rattle.proto_wire.specs.declared.key.Key.{Key}
use Rattle.proto_wire.specs.Keys.{len_key, varint_key}
use Rattle.rbac_match.specs.Message.{range_keys}
use Rattle.rbac_match.specs.Oneof.{MadeOf}
use Rattle.rbac_match.specs.Text.{text_holds, IsSought, SoughtFault, IsTextMatcher, TextFault}
use Rattle.rbac_match.specs.Int64Range.{range_holds, IsRange}
use Rattle.rbac_match.specs.declared.header.HeaderMember.{HeaderMember}
use Rattle.rbac_match.specs.declared.header.HeaderMember.TheVariants as members
use Rattle.rbac_match.specs.declared.header.Specifier.{Specifier}
use Rattle.rbac_match.specs.declared.header.Specifier.TheVariants.{Present, Text, Range}
use Rattle.rbac_match.specs.declared.text.Pattern.{Pattern}
use Rattle.rbac_match.specs.declared.text.Pattern.TheVariants.{Exact, Prefix, Suffix, Contains}

-- ---- the meaning

-- a test of the header with this name; the name is in lower case
pub record HeaderTest : Type 0 where
  pub name : List ℕ
  pub specifier : Specifier
  pub invert_match : Bool
  pub treat_missing_header_as_empty : Bool

-- the answer, negated if the matcher inverts
abbrev pub turned : Bool → Bool → Bool
turned invert answer = if invert then not answer else answer

-- the value of a header, present or missing; a missing one that counts as empty has the empty value
abbrev pub value_or_empty : (empty : Bool) → Option (List ℕ) → Option (List ℕ)
value_or_empty empty found = option_or found (if empty then Some [] else None)

-- whether a value passes, or fails if the matcher inverts. A missing header that does not count as empty
-- never passes
abbrev pub value_holds : (List ℕ → Bool) → (invert empty : Bool) → Option (List ℕ) → Bool
value_holds test invert empty found =
    option_map_or (λ value. turned invert (test value)) (value_or_empty empty found) false

-- whether a header, present or missing, passes: a test of its presence, or a test of its value
abbrev pub specifier_holds : Specifier → (invert empty : Bool) → Option (List ℕ) → Bool
specifier_holds (Present wanted) invert empty found =
    turned invert (if wanted then is_some found else not (is_some found))
specifier_holds (Text test) invert empty found =
    value_holds (text_holds test) invert empty found
specifier_holds (Range range) invert empty found =
    value_holds (range_holds range) invert empty found

-- ---- the message

-- the numbers of the fields of a HeaderMatcher (`config.route.v3.HeaderMatcher`). `invert_match` says whether
-- the answer is negated. `treat_missing_header_as_empty` says whether a missing header counts as one with the
-- empty value
abbrev pub header_field : record { name : ℕ; exact_match : ℕ; range_match : ℕ; present_match : ℕ; invert_match : ℕ; prefix_match : ℕ; suffix_match : ℕ; safe_regex_match : ℕ; contains_match : ℕ; string_match : ℕ; treat_missing_header_as_empty : ℕ }
header_field = record { name = 1; exact_match = 4; range_match = 6; present_match = 7; invert_match = 8; prefix_match = 9; suffix_match = 10; safe_regex_match = 11; contains_match = 12; string_match = 13; treat_missing_header_as_empty = 14 }

-- the members of the oneof; a regular expression is not supported
abbrev pub specifiers : List (Key × Option HeaderMember)
specifiers = let h = header_field in (len_key h.exact_match, Some (members.Text Exact))
    ∷ (len_key h.range_match, Some members.Range)
    ∷ (varint_key h.present_match, Some members.Present)
    ∷ (len_key h.prefix_match, Some (members.Text Prefix))
    ∷ (len_key h.suffix_match, Some (members.Text Suffix)) ∷ (len_key h.safe_regex_match, None)
    ∷ (len_key h.contains_match, Some (members.Text Contains))
    ∷ (len_key h.string_match, Some members.Matcher) ∷ []

-- all fields of a HeaderMatcher
abbrev pub header_keys : List Key
header_keys = len_key header_field.name ∷ varint_key header_field.invert_match
    ∷ varint_key header_field.treat_missing_header_as_empty ∷ keys_of specifiers

-- the run of this member, which has this number, means this specifier. If the member is itself a text, the
-- case of letters counts
abbrev pub SaysMember : HeaderMember → ℕ → List Wire → Specifier → Type 0
SaysMember (members.Text pattern) n run s = IsSought pattern (bytes_at n run)
    × (s ≡ Text (record { pattern = pattern; sought = bytes_at n run; ignore_case = false }))
SaysMember members.Range n run s = MadeOf (IsRange (payloads n run)) Range s
SaysMember members.Present n run s = s ≡ Present (bool_at n run)
SaysMember members.Matcher n run s = MadeOf (IsTextMatcher (payloads n run)) Text s

-- the last member means this specifier; without a member, the header must be present
pub data SaysSpecifier (fs : List Wire) (s : Specifier) : Type 0 where
  says_nothing : last_number (keys_of specifiers) fs ≡ None → s ≡ Present true → SaysSpecifier fs s
  says_member : (n : ℕ) (member : HeaderMember) → last_number (keys_of specifiers) fs ≡ Some n
      → member_in specifiers n ≡ Some member
      → SaysMember member n (member_run (keys_of specifiers) fs) s → SaysSpecifier fs s

-- the parts merge to a HeaderMatcher that means this test
pub record IsHeader (parts : List (List ℕ)) (h : HeaderTest) : Type 0 where
  pub fields : List Wire
  pub message : IsMessage header_keys parts fields
  pub readable : IsUtf8 (bytes_at header_field.name fields)
  pub named : bytes_at header_field.name fields ≢ []
  pub lowered : h.name ≡ str_to_ascii_lowercase (bytes_at header_field.name fields)
  pub asked : SaysSpecifier fields h.specifier
  pub inverted : h.invert_match ≡ bool_at header_field.invert_match fields
  pub emptied :
      h.treat_missing_header_as_empty ≡ bool_at header_field.treat_missing_header_as_empty fields

-- ---- the faults

-- a fault in the run of this member, which has this number
abbrev pub HeaderMemberFault : HeaderMember → ℕ → List Wire → Refusal → Type 0
HeaderMemberFault (members.Text pattern) n run e = SoughtFault (Some pattern) (bytes_at n run) e
HeaderMemberFault members.Range n run e = MessageFault range_keys (payloads n run) e
HeaderMemberFault members.Present n run e = ⊥
HeaderMemberFault members.Matcher n run e = TextFault (payloads n run) e

-- if the last member is itself a text, it is UTF-8
abbrev pub MemberReads : List Wire → Type 0
MemberReads fs = (n : ℕ) (pattern : Pattern) → last_number (keys_of specifiers) fs ≡ Some n
    → member_in specifiers n ≡ Some (members.Text pattern)
    → IsUtf8 (bytes_at n (member_run (keys_of specifiers) fs))

-- a fault of a HeaderMatcher: in its fields, its name or its last member. A missing name is a fault only if
-- the last member's own text is UTF-8
abbrev pub HeaderFault : List (List ℕ) → Refusal → Type 0
HeaderFault = ReadFault header_keys
    (λ fs. (bytes_at header_field.name fs ≡ []) × MemberReads fs)
    (λ fs e. Utf8Fault (bytes_at header_field.name fs) e
    ⊎ OneofFault specifiers IsUnsupported HeaderMemberFault fs e)
