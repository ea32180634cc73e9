-- A StringMatcher's payloads are a test or have a fault, never both, and mean one test at most.
use Rattle.std.proofs.Common.{◌≡◌, ◌≢◌, ℕ, ◌⊎◌, inl, inr, List, [], Option, Some, None, refl, sym, ◌∙◌}
use Rattle.std.specs.Map.{keys_of}
use Rattle.std.specs.Prelude.{MatchOption}
use Rattle.proto_wire.specs.Reading.{in_fields, lacking, in_values}
use Rattle.proto_wire.specs.Values.{bool_at, bytes_at}
use Rattle.proto_wire.specs.Fields.{Wire}
use Rattle.proto_wire.specs.Messages.{IsMessage}
use Rattle.proto_wire.proofs.Messages.{message_total, message_disjoint}
use Rattle.proto_wire.specs.declared.refusal.Refusal.{Refusal}
use Rattle.proto_wire.specs.declared.refusal.Refusal.TheVariants.{BadText, Missing, OutOfRange, Unsupported}
use Rattle.proto_wire.specs.Oneof.{last_number, member_in}
use Rattle.rbac_match.specs.Text.{TextTest, string_members, string_field, string_keys, IsFilled, IsSought, IsTextMatcher, SoughtFault, TextFault}
use Rattle.rbac_match.specs.declared.text.Pattern.{Pattern}
use Rattle.rbac_match.specs.declared.text.Pattern.TheVariants.{Exact, Prefix, Suffix, Contains}
use Rattle.rbac_match.proofs.Basics.{nil_or_not, utf8_total}
use Rattle.rbac_match.proofs.Oneofs.{of_last, some_last}

-- bytes are none or some
some_or_not : (bytes : List ℕ) → (bytes ≢ []) ⊎ (bytes ≢ [] → ⊥)
some_or_not bytes =
    elim (nil_or_not bytes) [ inl none ↦ inr (λ some. some none) | inr some ↦ inl some ]

filled_or_not : (pattern : Pattern) (bytes : List ℕ) → IsFilled pattern bytes ⊎ ¬ (IsFilled pattern bytes)
filled_or_not Exact bytes = inl tt
filled_or_not Prefix bytes = some_or_not bytes
filled_or_not Suffix bytes = some_or_not bytes
filled_or_not Contains bytes = some_or_not bytes

-- bytes may be sought, or have a fault
pub sought_total : (pattern : Pattern) (bytes : List ℕ)
    → IsSought pattern bytes ⊎ ((e : Refusal) × SoughtFault (Some pattern) bytes e)
sought_total pattern bytes = elim (utf8_total bytes) [
  | inr other ↦ inr (BadText, inl (other, refl))
  | inl utf8 ↦ elim (filled_or_not pattern bytes) [
    | inr empty ↦ inr (OutOfRange, inr (refl, empty))
    | inl filled ↦ inl (utf8, filled)
  ]
]

-- not both
pub sought_disjoint : (pattern : Pattern) (bytes : List ℕ) (e : Refusal) → IsSought pattern bytes
    → SoughtFault (Some pattern) bytes e → ⊥
sought_disjoint pattern bytes e (utf8, filled) (inl bad) = bad.0 utf8
sought_disjoint pattern bytes e (utf8, filled) (inr empty) = empty.1 filled

-- the last member settles the test
last_total : (parts : List (List ℕ)) (fs : List Wire) (n : ℕ) → IsMessage string_keys parts fs
    → last_number (keys_of string_members) fs ≡ Some n
    → (o : Option Pattern) → member_in string_members n ≡ o
    → ((t : TextTest) × IsTextMatcher parts t) ⊎ ((e : Refusal) × TextFault parts e)
last_total parts fs n message last None is =
    inr (Unsupported, in_values fs message.0 (n, last, rw is refl))
last_total parts fs n message last (Some pattern) is = elim (sought_total pattern (bytes_at n fs)) [
  | inr (e, bad) ↦ inr (e, in_values fs message.0 (n, last, rw is bad))
  | inl accepted ↦ inl (
    record { pattern = pattern; sought = bytes_at n fs; ignore_case = bool_at string_field.ignore_case fs },
    record {
      fields = fs;
      number = n;
      message = message;
      last = last;
      pattern = is;
      sought = refl;
      accepted = accepted;
      case = refl;
    },
  )
]

-- a StringMatcher's payloads are a test, or have a fault
pub text_total : (parts : List (List ℕ))
    → ((t : TextTest) × IsTextMatcher parts t) ⊎ ((e : Refusal) × TextFault parts e)
text_total parts = elim (message_total string_keys parts) [
  | inr bad ↦ inr (bad.0, in_fields bad.1)
  | inl (fs, message) ↦ elim (last_number (keys_of string_members) fs) as (λ o. last_number (keys_of string_members) fs ≡ o
      → ((t : TextTest) × IsTextMatcher parts t) ⊎ ((e : Refusal) × TextFault parts e)) [
        | None ↦ λ none. inr (Missing, lacking fs message none refl)
        | Some n ↦ λ last. last_total parts fs n message last _ refl
      ] refl
]

-- a StringMatcher that is a test has no fault
pub text_disjoint : (parts : List (List ℕ)) (t : TextTest) (e : Refusal) → IsTextMatcher parts t
    → TextFault parts e → ⊥
text_disjoint parts t e is (in_fields bad) =
    message_disjoint string_keys parts is.fields e is.message bad
text_disjoint parts t e is (lacking gs also none err) =
    some_last (keys_of string_members) parts is.fields is.number is.message.0 is.last gs also.0 none
text_disjoint parts t e is (in_values gs also (m, last, bad)) =
    let P : List Wire → ℕ → Type 0 = λ hs k. SoughtFault (member_in string_members k) (bytes_at k hs) e in
    let here = of_last (keys_of string_members) parts is.fields is.number is.message.0 is.last P gs m also last bad in
    sought_disjoint t.pattern t.sought e is.accepted (rw (is.pattern, ← is.sought) at here)

-- a StringMatcher means one test
pub text_unique : (parts : List (List ℕ)) (t u : TextTest) → IsTextMatcher parts t
    → IsTextMatcher parts u → t ≡ u
text_unique parts t u a b =
    let P : List Wire → ℕ → Type 0 = λ hs k. (member_in string_members k ≡ Some u.pattern)
    × (u.sought ≡ bytes_at k hs) × (u.ignore_case ≡ bool_at string_field.ignore_case hs) in
    let same = of_last (keys_of string_members) parts a.fields a.number a.message.0 a.last P
    b.fields b.number b.message.0 b.last (b.pattern, b.sought, b.case) in
    let whole : Some t.pattern ≡ Some u.pattern = sym a.pattern ∙ same.0 in
    let pattern : t.pattern ≡ u.pattern = cc in
    let sought : t.sought ≡ u.sought = a.sought ∙ sym same.1 in
    let case : t.ignore_case ≡ u.ignore_case = a.case ∙ sym same.2 in
    λ i. record { pattern = pattern i; sought = sought i; ignore_case = case i }

-- what the fields say of the last member makes a test, or a fault
module _ (parts : List (List ℕ)) (fs : List Wire) (message : IsMessage string_keys parts fs) where
  pub text_found : (t : TextTest)
      → MatchOption (last_number (keys_of string_members) fs) ⊥ (λ n.
      (member_in string_members n ≡ Some t.pattern) × (t.sought ≡ bytes_at n fs) × IsSought t.pattern t.sought)
      → t.ignore_case ≡ bool_at string_field.ignore_case fs → IsTextMatcher parts t
  text_found t found case = elim (last_number (keys_of string_members) fs) as (λ o.
      last_number (keys_of string_members) fs ≡ o → MatchOption o ⊥ (λ n.
      (member_in string_members n ≡ Some t.pattern) × (t.sought ≡ bytes_at n fs) × IsSought t.pattern t.sought)
      → IsTextMatcher parts t) [
        | None ↦ λ none never. absurd never
        | Some n ↦ λ last (pattern, sought, accepted). record {
          fields = fs;
          number = n;
          message = message;
          last = last;
          pattern = pattern;
          sought = sought;
          accepted = accepted;
          case = case;
        }
      ] refl found

  pub pattern_fault : (e : Refusal)
      → MatchOption (last_number (keys_of string_members) fs) (e ≡ Missing) (λ n.
      SoughtFault (member_in string_members n) (bytes_at n fs) e) → TextFault parts e
  pattern_fault e fault = elim (last_number (keys_of string_members) fs) as (λ o.
      last_number (keys_of string_members) fs ≡ o → MatchOption o (e ≡ Missing) (λ n.
      SoughtFault (member_in string_members n) (bytes_at n fs) e) → TextFault parts e) [
        | None ↦ λ none missing. lacking fs message none missing
        | Some n ↦ λ last bad. in_values fs message.0 (n, last, bad)
      ] refl fault
