-- A HeaderMatcher's payloads are a test of a header or have a fault, never both, and they mean one test at most.
use Rattle.std.proofs.Common.{◌≡◌, ◌≢◌, ℕ, ◌⊎◌, inl, inr, true, List, [], ◌∷◌, Option, Some, None, refl, sym, ap, ap₂, subst, ◌∙◌}
use Rattle.std.specs.Map.{keys_of}
use Rattle.std.specs.Str.{IsUtf8, str_to_ascii_lowercase}
use Rattle.std.proofs.lemmas.Str.Ascii.{lowercase-lowercase}
use Rattle.proto_wire.specs.Reading.{OneofFault, IsUnsupported, in_fields, lacking, in_values}
use Rattle.proto_wire.proofs.Readers.{oneof_bad}
use Rattle.proto_wire.specs.Values.{bool_at, bytes_at, int64_at, payloads, Utf8Fault}
use Rattle.proto_wire.specs.Fields.{Wire}
use Rattle.proto_wire.specs.Oneof.{member_run, last_number, member_in}
use Rattle.proto_wire.specs.Messages.{IsMessage, MessageFault}
use Rattle.proto_wire.proofs.Unique.{merges_unique}
use Rattle.proto_wire.proofs.Messages.{message_total, message_disjoint}
use Rattle.proto_wire.specs.declared.refusal.Refusal.{Refusal}
use Rattle.proto_wire.specs.declared.refusal.Refusal.TheVariants.{BadText, Missing, Unsupported}
use Rattle.rbac_match.specs.Message.{range_field, range_keys}
use Rattle.rbac_match.specs.Int64Range.{IsRange}
use Rattle.rbac_match.specs.Header.{HeaderTest, specifiers, header_field, header_keys, SaysMember, SaysSpecifier, says_nothing, says_member, IsHeader, HeaderMemberFault, MemberReads, HeaderFault}
use Rattle.rbac_match.specs.declared.int64_range.Int64Range.{Int64Range}
use Rattle.rbac_match.specs.declared.header.HeaderMember.{HeaderMember}
use Rattle.rbac_match.specs.declared.header.HeaderMember.TheVariants as members
use Rattle.rbac_match.specs.declared.header.Specifier.{Specifier}
use Rattle.rbac_match.specs.declared.header.Specifier.TheVariants.{Present, Text, Range}
use Rattle.rbac_match.specs.declared.text.Pattern.{Pattern}
use Rattle.rbac_match.proofs.Basics.{nil_or_not, utf8_total}
use Rattle.rbac_match.proofs.TextMessages.{sought_total, sought_disjoint, text_total, text_disjoint, text_unique}

-- ---- names

-- a name in lower case stays as it is
lowered_twice : (bytes : List ℕ)
    → str_to_ascii_lowercase (str_to_ascii_lowercase bytes) ≡ str_to_ascii_lowercase bytes
lowered_twice [] = refl
lowered_twice (b ∷ bytes) = ap₂ (λ (c : ℕ) (cs : List ℕ). c ∷ cs) (lowercase-lowercase b) (lowered_twice bytes)

lowered_some : (bytes : List ℕ) → bytes ≢ [] → str_to_ascii_lowercase bytes ≢ []
lowered_some [] some none = some refl
lowered_some (b ∷ bytes) some none = cc

pub lowered_name : (bytes : List ℕ) → bytes ≢ [] → (str_to_ascii_lowercase bytes ≢ [])
    × (str_to_ascii_lowercase (str_to_ascii_lowercase bytes) ≡ str_to_ascii_lowercase bytes)
lowered_name bytes some = (lowered_some bytes some, lowered_twice bytes)

-- ---- ranges

-- an Int64Range's payloads are a range or have a fault
range_total : (parts : List (List ℕ))
    → ((r : Int64Range) × IsRange parts r) ⊎ ((e : Refusal) × MessageFault range_keys parts e)
range_total parts = elim (message_total range_keys parts) [
  | inr bad ↦ inr bad
  | inl (fs, message) ↦
      inl (record { start = int64_at range_field.start fs; end = int64_at range_field.end fs }, (fs, message, refl, refl))
]

-- and they are one range at most
range_unique : (parts : List (List ℕ)) (r q : Int64Range) → IsRange parts r → IsRange parts q
    → r ≡ q
range_unique parts r q (fs, a, start, end) (gs, b, also_start, also_end) =
    let same : fs ≡ gs = merges_unique parts fs gs a.0 b.0 in
    let first : r.start ≡ q.start = start ∙ ap (int64_at range_field.start) same ∙ sym also_start in
    let past : r.end ≡ q.end = end ∙ ap (int64_at range_field.end) same ∙ sym also_end in
    λ i. record { start = first i; end = past i }

-- ---- one member

-- the run of a member says what is asked, or has a fault
member_total : (member : HeaderMember) (n : ℕ) (run : List Wire)
    → ((s : Specifier) × SaysMember member n run s)
    ⊎ ((e : Refusal) × HeaderMemberFault member n run e)
member_total (members.Text pattern) n run = elim (sought_total pattern (bytes_at n run)) [
  | inl accepted ↦ inl (_, (accepted, refl))
  | inr bad ↦ inr bad
]
member_total members.Range n run = elim (range_total (payloads n run)) [
  | inl (range, is) ↦ inl (Range range, (range, is, refl))
  | inr bad ↦ inr bad
]
member_total members.Present n run = inl (Present (bool_at n run), refl)
member_total members.Matcher n run = elim (text_total (payloads n run)) [
  | inl (test, is) ↦ inl (Text test, (test, is, refl))
  | inr bad ↦ inr bad
]

-- not both
member_disjoint : (member : HeaderMember) (n : ℕ) (run : List Wire) (s : Specifier) (e : Refusal)
    → SaysMember member n run s → HeaderMemberFault member n run e → ⊥
member_disjoint (members.Text pattern) n run s e says bad =
    sought_disjoint pattern (bytes_at n run) e says.0 bad
member_disjoint members.Range n run s e (range, is, asked) bad =
    message_disjoint range_keys (payloads n run) is.0 e is.1 bad
member_disjoint members.Present n run s e says bad = bad
member_disjoint members.Matcher n run s e (test, is, asked) bad =
    text_disjoint (payloads n run) test e is bad

-- and it asks one thing
member_unique : (member : HeaderMember) (n : ℕ) (run : List Wire) (s t : Specifier)
    → SaysMember member n run s → SaysMember member n run t → s ≡ t
member_unique (members.Text pattern) n run s t a b = a.1 ∙ sym b.1
member_unique members.Range n run s t (range, is, asked) (other, also, same) =
    asked ∙ ap Range (range_unique (payloads n run) range other is also) ∙ sym same
member_unique members.Present n run s t a b = a ∙ sym b
member_unique members.Matcher n run s t (test, is, asked) (other, also, same) =
    asked ∙ ap Text (text_unique (payloads n run) test other is also) ∙ sym same

-- a member's own text that says what is asked is UTF-8
own_text : (member : HeaderMember) (n : ℕ) (run : List Wire) (s : Specifier) (pattern : Pattern)
    → SaysMember member n run s → member ≡ members.Text pattern → IsUtf8 (bytes_at n run)
own_text (members.Text other) n run s pattern says is = says.0.0
own_text members.Range n run s pattern says is = absurd cc
own_text members.Present n run s pattern says is = absurd cc
own_text members.Matcher n run s pattern says is = absurd cc

-- ---- the last member

-- fields say what is asked, or have a fault
specifier_total : (fs : List Wire) → ((s : Specifier) × SaysSpecifier fs s)
    ⊎ ((e : Refusal) × OneofFault specifiers IsUnsupported HeaderMemberFault fs e)
specifier_total fs = elim (last_number (keys_of specifiers) fs) as (λ o.
    last_number (keys_of specifiers) fs ≡ o → ((s : Specifier) × SaysSpecifier fs s)
    ⊎ ((e : Refusal) × OneofFault specifiers IsUnsupported HeaderMemberFault fs e)) [
      | None ↦ λ none. inl (Present true, says_nothing none refl)
      | Some n ↦ λ last. of_member n last _ refl
    ] refl
  where
    of_member : (n : ℕ) → last_number (keys_of specifiers) fs ≡ Some n → (o : Option HeaderMember)
        → member_in specifiers n ≡ o → ((s : Specifier) × SaysSpecifier fs s)
        ⊎ ((e : Refusal) × OneofFault specifiers IsUnsupported HeaderMemberFault fs e)
    of_member n last None is = inr (Unsupported, rw (last, is) refl)
    of_member n last (Some member) is =
        elim (member_total member n (member_run (keys_of specifiers) fs)) [
          | inl (s, says) ↦ inl (s, says_member n member last is says)
          | inr (e, bad) ↦ inr (e, oneof_bad specifiers fs IsUnsupported HeaderMemberFault n member last is e bad)
        ]

-- not both
specifier_disjoint : (fs : List Wire) (s : Specifier) (e : Refusal) → SaysSpecifier fs s
    → OneofFault specifiers IsUnsupported HeaderMemberFault fs e → ⊥
specifier_disjoint fs s e (says_nothing none is) bad = rw none at bad
specifier_disjoint fs s e (says_member m member last is says) bad =
    member_disjoint member m (member_run (keys_of specifiers) fs) s e says (rw (last, is) at bad)

-- and they ask one thing
specifier_unique : (fs : List Wire) (s t : Specifier) → SaysSpecifier fs s → SaysSpecifier fs t
    → s ≡ t
specifier_unique fs s t (says_nothing none is) (says_nothing also other) = is ∙ sym other
specifier_unique fs s t (says_nothing none is) (says_member m member at known says) =
    let clash : None ≡ Some m = sym none ∙ at in absurd cc
specifier_unique fs s t (says_member n member last is says) (says_nothing none other) =
    let clash : None ≡ Some n = sym none ∙ last in absurd cc
specifier_unique fs s t (says_member n member last is says) (says_member m other at known also) =
    let whole : Some m ≡ Some n = sym at ∙ last in
    let same : m ≡ n = cc in
    let run : List Wire = member_run (keys_of specifiers) fs in
    let whole_member : Some other ≡ Some member = sym known ∙ ap (member_in specifiers) same ∙ is in
    let one : other ≡ member = cc in
    let P : ℕ → Type 0 = λ k. SaysMember other k run t in
    let Q : HeaderMember → Type 0 = λ k. SaysMember k n run t in
    member_unique member n run s t says (subst Q one (subst P same also))

-- of fields that say what is asked, the member's own text is UTF-8
pub member_reads : (fs : List Wire) (s : Specifier) → SaysSpecifier fs s → MemberReads fs
member_reads fs s (says_nothing none is) n pattern last of =
    let clash : None ≡ Some n = sym none ∙ last in absurd cc
member_reads fs s (says_member m member at is says) n pattern last of =
    let whole : Some n ≡ Some m = sym last ∙ at in
    let same : n ≡ m = cc in
    let whole_member : Some member ≡ Some (members.Text pattern) = sym is ∙ ap (member_in specifiers) (sym same) ∙ of in
    let one : member ≡ members.Text pattern = cc in
    let P : ℕ → Type 0 = λ k. IsUtf8 (bytes_at k (member_run (keys_of specifiers) fs)) in
    subst P (sym same) (own_text member m (member_run (keys_of specifiers) fs) s pattern says one)

-- ---- the message

-- a HeaderMatcher's payloads are a test, or have a fault
pub header_total : (parts : List (List ℕ))
    → ((h : HeaderTest) × IsHeader parts h) ⊎ ((e : Refusal) × HeaderFault parts e)
header_total parts = elim (message_total header_keys parts) [
  | inr bad ↦ inr (bad.0, in_fields bad.1)
  | inl (fs, message) ↦ elim (specifier_total fs) [
    | inr (e, bad) ↦ inr (e, in_values fs message.0 (inr bad))
    | inl (s, asked) ↦ elim (utf8_total (bytes_at header_field.name fs)) [
      | inr bad ↦ inr (BadText, in_values fs message.0 (inl (bad, refl)))
      | inl readable ↦ elim (nil_or_not (bytes_at header_field.name fs)) [
        | inl none ↦ inr (Missing, lacking fs message (none, member_reads fs s asked) refl)
        | inr named ↦ inl (
          record {
            name = str_to_ascii_lowercase (bytes_at header_field.name fs);
            specifier = s;
            invert_match = bool_at header_field.invert_match fs;
            treat_missing_header_as_empty = bool_at header_field.treat_missing_header_as_empty fs;
          },
          record {
            fields = fs;
            message = message;
            readable = readable;
            named = named;
            lowered = refl;
            asked = asked;
            inverted = refl;
            emptied = refl;
          },
        )
      ]
    ]
  ]
]

-- a HeaderMatcher that is a test has no fault
pub header_disjoint : (parts : List (List ℕ)) (h : HeaderTest) (e : Refusal) → IsHeader parts h
    → HeaderFault parts e → ⊥
header_disjoint parts h e is (in_fields bad) =
    message_disjoint header_keys parts is.fields e is.message bad
header_disjoint parts h e is (in_values fs merged (inl bad)) =
    let P : List Wire → Type 0 = λ xs. IsUtf8 (bytes_at header_field.name xs) in
    bad.0 (subst P (merges_unique parts is.fields fs is.message.0 merged) is.readable)
header_disjoint parts h e is (lacking fs message (none, reads) err) =
    is.named (ap (bytes_at header_field.name) (merges_unique parts is.fields fs is.message.0 message.0) ∙ none)
header_disjoint parts h e is (in_values fs merged (inr bad)) =
    let P : List Wire → Type 0 = λ xs. SaysSpecifier xs h.specifier in
    specifier_disjoint fs h.specifier e (subst P (merges_unique parts is.fields fs is.message.0 merged) is.asked) bad

-- a HeaderMatcher means one test
pub header_unique : (parts : List (List ℕ)) (h k : HeaderTest) → IsHeader parts h → IsHeader parts k
    → h ≡ k
header_unique parts h k a b =
    let same : a.fields ≡ b.fields = merges_unique parts a.fields b.fields a.message.0 b.message.0 in
    let P : List Wire → Type 0 = λ fs. SaysSpecifier fs h.specifier in
    let name : h.name ≡ k.name =
    a.lowered ∙ ap (λ fs. str_to_ascii_lowercase (bytes_at header_field.name fs)) same ∙ sym b.lowered in
    let specifier : h.specifier ≡ k.specifier =
    specifier_unique b.fields h.specifier k.specifier (subst P same a.asked) b.asked in
    let invert : h.invert_match ≡ k.invert_match =
    a.inverted ∙ ap (bool_at header_field.invert_match) same ∙ sym b.inverted in
    let empty : h.treat_missing_header_as_empty ≡ k.treat_missing_header_as_empty =
    a.emptied ∙ ap (bool_at header_field.treat_missing_header_as_empty) same ∙ sym b.emptied in
    λ i. record {
      name = name i;
      specifier = specifier i;
      invert_match = invert i;
      treat_missing_header_as_empty = empty i;
    }

-- what is wrong with the name is wrong with the matcher, where its last member says what is asked
pub name_fault : (parts : List (List ℕ)) (fs : List Wire) (s : Specifier) (e : Refusal)
    → IsMessage header_keys parts fs → SaysSpecifier fs s
    → Utf8Fault (bytes_at header_field.name fs) e ⊎ ((e ≡ Missing) × (bytes_at header_field.name fs ≡ []))
    → HeaderFault parts e
name_fault parts fs s e message says (inl bad) = in_values fs message.0 (inl bad)
name_fault parts fs s e message says (inr none) =
    lacking fs message (none.1, member_reads fs s says) none.0
