-- An Authenticated's payloads are a test or have a fault, never both, and mean one test at most.
use Rattle.std.proofs.Common.{◌≡◌, ℕ, ◌⊎◌, inl, inr, List, Option}
use Rattle.proto_wire.specs.Fields.{Wire}
use Rattle.proto_wire.specs.Reading.{Never, IsOptional, OptionalFault}
use Rattle.proto_wire.specs.declared.refusal.Refusal.{Refusal}
use Rattle.proto_wire.specs.private.Values.{ValuesFault}
use Rattle.proto_wire.proofs.OptionalLaws.{optional_total, optional_disjoint, optional_unique}
use Rattle.proto_wire.proofs.ReadingLaws.{reads_total, reads_disjoint, reads_unique}
use Rattle.rbac_match.specs.Authenticated.{authenticated_field, authenticated_keys, IsAuthenticated, AuthenticatedFault}
use Rattle.rbac_match.specs.Text.{TextTest, IsTextMatcher, TextFault}
use Rattle.rbac_match.proofs.TextMessages.{text_total, text_disjoint, text_unique}

abbrev Says : List Wire → Option TextTest → Type 0
Says = IsOptional IsTextMatcher authenticated_field.principal_name

abbrev Wrong : List Wire → Refusal → Type 0
Wrong = OptionalFault TextFault authenticated_field.principal_name

name_total : (fs : List Wire) → ((name : Option TextTest) × Says fs name) ⊎ ((e : Refusal) × ValuesFault Never Wrong fs e)
name_total fs = elim (optional_total IsTextMatcher TextFault text_total authenticated_field.principal_name fs) [
  | inl good ↦ inl good
  | inr bad ↦ inr (bad.0, inr bad.1)
]

name_disjoint : (fs : List Wire) (name : Option TextTest) (e : Refusal) → Says fs name → ValuesFault Never Wrong fs e → ⊥
name_disjoint fs name e says (inl none) = none.0
name_disjoint fs name e says (inr bad) =
    optional_disjoint IsTextMatcher TextFault text_disjoint authenticated_field.principal_name fs name e says bad

-- the payloads of an Authenticated are a test, or have a fault
pub authenticated_total : (parts : List (List ℕ))
    → ((name : Option TextTest) × IsAuthenticated parts name)
    ⊎ ((e : Refusal) × AuthenticatedFault parts e)
authenticated_total = reads_total authenticated_keys Says Never Wrong name_total

-- an Authenticated that is a test has no fault
pub authenticated_disjoint : (parts : List (List ℕ)) (name : Option TextTest) (e : Refusal)
    → IsAuthenticated parts name → AuthenticatedFault parts e → ⊥
authenticated_disjoint = reads_disjoint authenticated_keys Says Never Wrong name_disjoint

-- an Authenticated means one test
pub authenticated_unique : (parts : List (List ℕ)) (a b : Option TextTest) → IsAuthenticated parts a
    → IsAuthenticated parts b → a ≡ b
authenticated_unique =
    reads_unique authenticated_keys Says (optional_unique IsTextMatcher text_unique authenticated_field.principal_name)
