-- A PathMatcher's payloads are a test or have a fault, never both, and mean one test at most.
use Rattle.std.proofs.Common.{◌≡◌, ℕ, ◌⊎◌, inl, inr, List, [], refl, subst}
use Rattle.proto_wire.specs.Reading.{in_fields, lacking, in_values}
use Rattle.proto_wire.specs.Values.{payloads}
use Rattle.proto_wire.proofs.Unique.{merges_unique}
use Rattle.proto_wire.proofs.Messages.{message_total, message_disjoint}
use Rattle.proto_wire.specs.declared.refusal.Refusal.{Refusal}
use Rattle.proto_wire.specs.declared.refusal.Refusal.TheVariants.{Missing}
use Rattle.rbac_match.specs.Path.{path_field, path_keys, IsPathMatcher, PathFault}
use Rattle.rbac_match.specs.Text.{TextTest, IsTextMatcher, TextFault}
use Rattle.rbac_match.proofs.Basics.{nil_or_not}
use Rattle.rbac_match.proofs.TextMessages.{text_total, text_disjoint, text_unique}

-- a PathMatcher's payloads are a test, or have a fault
pub path_total : (parts : List (List ℕ))
    → ((t : TextTest) × IsPathMatcher parts t) ⊎ ((e : Refusal) × PathFault parts e)
path_total parts = elim (message_total path_keys parts) [
  | inr bad ↦ inr (bad.0, in_fields bad.1)
  | inl message ↦ elim (nil_or_not (payloads path_field.path message.0)) [
    | inl none ↦ inr (Missing, lacking message.0 message.1 none refl)
    | inr some ↦ elim (text_total (payloads path_field.path message.0)) [
      | inl good ↦ inl (good.0, (message.0, message.1, (some, good.1)))
      | inr bad ↦ inr (bad.0, in_values message.0 message.1.0 (some, bad.1))
    ]
  ]
]

-- a PathMatcher that is a test has no fault
pub path_disjoint : (parts : List (List ℕ)) (t : TextTest) (e : Refusal) → IsPathMatcher parts t
    → PathFault parts e → ⊥
path_disjoint parts t e (fs, message, (some, is)) (in_fields bad) =
    message_disjoint path_keys parts fs e message bad
path_disjoint parts t e (fs, message, (some, is)) (lacking gs also none err) =
    some (subst (λ hs. payloads path_field.path hs ≡ []) (merges_unique parts gs fs also.0 message.0) none)
path_disjoint parts t e (fs, message, (some, is)) (in_values gs also (there, bad)) =
    text_disjoint (payloads path_field.path fs) t e is
    (subst (λ hs. TextFault (payloads path_field.path hs) e) (merges_unique parts gs fs also message.0) bad)

-- a PathMatcher means one test
pub path_unique : (parts : List (List ℕ)) (t u : TextTest) → IsPathMatcher parts t
    → IsPathMatcher parts u → t ≡ u
path_unique parts t u (fs, a, (_, is)) (gs, b, (_, also)) =
    text_unique (payloads path_field.path fs) t u is
    (subst (λ hs. IsTextMatcher (payloads path_field.path hs) u) (merges_unique parts gs fs b.0 a.0) also)
