-- The payloads of a Type are one or have a fault, never both, and say one thing at most.
use Rattle.std.proofs.Common.{◌≡◌, ◌⊎◌, inl, inr, ℕ, zero, suc, List, Option, Some, None, MatchOption, refl, sym, ap, subst, ◌∙◌}
use Rattle.std.specs.Map.{keys_of}
use Rattle.proto_wire.specs.Fields.{Wire}
use Rattle.proto_wire.specs.Oneof.{member_run, last_number, member_in}
use Rattle.proto_wire.specs.Values.{payloads, uint32_at}
use Rattle.proto_wire.specs.declared.refusal.Refusal.{Refusal}
use Rattle.proto_wire.specs.declared.refusal.Refusal.TheVariants.{OutOfRange, TooLarge}
use Rattle.cel_tree.specs.Checked.{CelTypeEntry, dyn_type, unsupported_type}
use Rattle.proto_wire.specs.Reading.{Never, OneofSays, OneofFault}
use Rattle.proto_wire.specs.private.Values.{ValuesFault}
use Rattle.cel_tree.specs.TypeEntries.{list_entry, map_entry, primitive_of, TypeNode, plain, list_of, map_of, type_kinds, type_keys, list_type_field, map_type_field, list_type_keys, map_type_keys, ListTypeSays, ListTypeWrong, MapTypeSays, MapTypeWrong, TypeSays, TypeFails, IsOfOtherKind, IsTypeNode, TypeNodeFault, MeansEntry, IsTypeEntry, in_type, in_inner, TypeEntryFault}
use Rattle.cel_read.specs.private.InnerTypes.{HoldsFault}
use Rattle.cel_tree.specs.declared.kinds.TypeKind.{TypeKind}
use Rattle.cel_tree.specs.declared.kinds.TypeKind.TheVariants as kinds
use Rattle.cel_read.proofs.Basics.{nil_or_not}
use Rattle.cel_read.proofs.InnerLaws.{inner_fault, inner_inside, inner_holds}
use Rattle.proto_wire.proofs.ReadingLaws.{reads_total, reads_disjoint, reads_unique, oneof_unique}

-- ---- one message

list_total : (fs : List Wire) → ((node : TypeNode) × ListTypeSays fs node) ⊎ ((e : Refusal) × ValuesFault Never ListTypeWrong fs e)
list_total fs = elim (nil_or_not (payloads list_type_field.elem_type fs)) [
  | inl none ↦ inr (OutOfRange, inr (none, refl))
  | inr some ↦ inl (list_of (payloads list_type_field.elem_type fs), (some, refl))
]

list_disjoint : (fs : List Wire) (node : TypeNode) (e : Refusal) → ListTypeSays fs node → ValuesFault Never ListTypeWrong fs e → ⊥
list_disjoint fs node e says (inl none) = none.0
list_disjoint fs node e says (inr bad) = says.0 bad.0

list_unique : (fs : List Wire) (a b : TypeNode) → ListTypeSays fs a → ListTypeSays fs b → a ≡ b
list_unique fs a b x y = x.1 ∙ sym y.1

map_total : (fs : List Wire) → ((node : TypeNode) × MapTypeSays fs node) ⊎ ((e : Refusal) × ValuesFault Never MapTypeWrong fs e)
map_total fs = elim (nil_or_not (payloads map_type_field.key_type fs)) [
  | inl none ↦ inr (OutOfRange, inr (inl none, refl))
  | inr key ↦ elim (nil_or_not (payloads map_type_field.value_type fs)) [
    | inl none ↦ inr (OutOfRange, inr (inr none, refl))
    | inr value ↦ inl (map_of (payloads map_type_field.key_type fs) (payloads map_type_field.value_type fs), (key, value, refl))
  ]
]

map_disjoint : (fs : List Wire) (node : TypeNode) (e : Refusal) → MapTypeSays fs node → ValuesFault Never MapTypeWrong fs e → ⊥
map_disjoint fs node e says (inl none) = none.0
map_disjoint fs node e says (inr (inl none, is)) = says.0 none
map_disjoint fs node e says (inr (inr none, is)) = says.1 none

map_unique : (fs : List Wire) (a b : TypeNode) → MapTypeSays fs a → MapTypeSays fs b → a ≡ b
map_unique fs a b x y = x.2 ∙ sym y.2

primitive_total : (o : Option CelTypeEntry) → ((entry : CelTypeEntry) × (o ≡ Some entry)) ⊎ (o ≡ None)
primitive_total None = inr refl
primitive_total (Some entry) = inl (entry, refl)

kind_total : (kind : TypeKind) (n : ℕ) (run : List Wire)
    → ((node : TypeNode) × TypeSays kind n run node) ⊎ ((e : Refusal) × TypeFails kind n run e)
kind_total kinds.Dyn n run = inl (plain dyn_type, refl)
kind_total kinds.Primitive n run = elim (primitive_total (primitive_of (uint32_at n run))) [
  | inl (entry, at) ↦ inl (plain entry, (entry, at, refl))
  | inr none ↦ inr (OutOfRange, (none, refl))
]
kind_total kinds.List n run = reads_total list_type_keys ListTypeSays Never ListTypeWrong list_total (payloads n run)
kind_total kinds.Map n run = reads_total map_type_keys MapTypeSays Never MapTypeWrong map_total (payloads n run)

kind_disjoint : (kind : TypeKind) (n : ℕ) (run : List Wire) (node : TypeNode) (e : Refusal)
    → TypeSays kind n run node → TypeFails kind n run e → ⊥
kind_disjoint kinds.Dyn n run node e says bad = bad
kind_disjoint kinds.Primitive n run node e (entry, at, is) (none, out) =
    let clash : None ≡ Some entry = sym none ∙ at in absurd cc
kind_disjoint kinds.List n run node e says bad = reads_disjoint list_type_keys ListTypeSays Never ListTypeWrong list_disjoint (payloads n run) node e says bad
kind_disjoint kinds.Map n run node e says bad = reads_disjoint map_type_keys MapTypeSays Never MapTypeWrong map_disjoint (payloads n run) node e says bad

kind_unique : (kind : TypeKind) (n : ℕ) (run : List Wire) (a b : TypeNode)
    → TypeSays kind n run a → TypeSays kind n run b → a ≡ b
kind_unique kinds.Dyn n run a b x y = x ∙ sym y
kind_unique kinds.Primitive n run a b (d, at, is) (e, at', is') =
    let whole : Some d ≡ Some e = sym at ∙ at' in
    let same : d ≡ e = cc in
    is ∙ ap plain same ∙ sym is'
kind_unique kinds.List n run a b x y = reads_unique list_type_keys ListTypeSays list_unique (payloads n run) a b x y
kind_unique kinds.Map n run a b x y = reads_unique map_type_keys MapTypeSays map_unique (payloads n run) a b x y

fields_total : (fs : List Wire) → ((node : TypeNode) × OneofSays type_kinds IsOfOtherKind TypeSays fs node)
    ⊎ ((e : Refusal) × ValuesFault Never (OneofFault type_kinds Never TypeFails) fs e)
fields_total fs = elim (last_number (keys_of type_kinds) fs) as (λ o.
    ((node : TypeNode) × MatchOption o (IsOfOtherKind node) (λ n. MatchOption (member_in type_kinds n) (IsOfOtherKind node)
    (λ m. TypeSays m n (member_run (keys_of type_kinds) fs) node)))
    ⊎ ((e : Refusal) × ((⊥ × (e ≡ Refusal.Missing)) ⊎ MatchOption o ⊥ (λ n. MatchOption (member_in type_kinds n) ⊥
    (λ m. TypeFails m n (member_run (keys_of type_kinds) fs) e))))) [
      | None ↦ inl (plain unsupported_type, refl)
      | Some n ↦ elim (member_in type_kinds n) as (λ p.
          ((node : TypeNode) × MatchOption p (IsOfOtherKind node) (λ m. TypeSays m n (member_run (keys_of type_kinds) fs) node))
          ⊎ ((e : Refusal) × ((⊥ × (e ≡ Refusal.Missing)) ⊎ MatchOption p ⊥ (λ m. TypeFails m n (member_run (keys_of type_kinds) fs) e)))) [
            | None ↦ inl (plain unsupported_type, refl)
            | Some m ↦ elim (kind_total m n (member_run (keys_of type_kinds) fs)) [
              | inl good ↦ inl good
              | inr bad ↦ inr (bad.0, inr bad.1)
            ]
          ]
    ]

fields_disjoint : (fs : List Wire) (node : TypeNode) (e : Refusal) → OneofSays type_kinds IsOfOtherKind TypeSays fs node
    → ValuesFault Never (OneofFault type_kinds Never TypeFails) fs e → ⊥
fields_disjoint fs node e says (inl none) = none.0
fields_disjoint fs node e says (inr bad) = elim (last_number (keys_of type_kinds) fs) as (λ o.
    MatchOption o (IsOfOtherKind node) (λ n. MatchOption (member_in type_kinds n) (IsOfOtherKind node)
    (λ m. TypeSays m n (member_run (keys_of type_kinds) fs) node))
    → MatchOption o ⊥ (λ n. MatchOption (member_in type_kinds n) ⊥ (λ m. TypeFails m n (member_run (keys_of type_kinds) fs) e)) → ⊥) [
      | None ↦ λ a b. b
      | Some n ↦ elim (member_in type_kinds n) as (λ p.
          MatchOption p (IsOfOtherKind node) (λ m. TypeSays m n (member_run (keys_of type_kinds) fs) node)
          → MatchOption p ⊥ (λ m. TypeFails m n (member_run (keys_of type_kinds) fs) e) → ⊥) [
            | None ↦ λ a b. b
            | Some m ↦ λ a b. kind_disjoint m n (member_run (keys_of type_kinds) fs) node e a b
          ]
    ] says bad

node_total : (parts : List (List ℕ)) → ((node : TypeNode) × IsTypeNode parts node) ⊎ ((e : Refusal) × TypeNodeFault parts e)
node_total = reads_total type_keys (OneofSays type_kinds IsOfOtherKind TypeSays) Never (OneofFault type_kinds Never TypeFails) fields_total

node_disjoint : (parts : List (List ℕ)) (node : TypeNode) (e : Refusal) → IsTypeNode parts node → TypeNodeFault parts e → ⊥
node_disjoint = reads_disjoint type_keys (OneofSays type_kinds IsOfOtherKind TypeSays) Never (OneofFault type_kinds Never TypeFails) fields_disjoint

node_unique : (parts : List (List ℕ)) (a b : TypeNode) → IsTypeNode parts a → IsTypeNode parts b → a ≡ b
node_unique = reads_unique type_keys (OneofSays type_kinds IsOfOtherKind TypeSays)
    (oneof_unique type_kinds TypeSays IsOfOtherKind (λ x y a b. a ∙ sym b) kind_unique)

-- ---- all levels

module _ (Below : List (List ℕ) → CelTypeEntry → Type 0) (Fails : List (List ℕ) → Refusal → Type 0) where
  holds_total : ((parts : List (List ℕ)) → ((entry : CelTypeEntry) × Below parts entry) ⊎ ((e : Refusal) × Fails parts e))
      → (node : TypeNode) → ((entry : CelTypeEntry) × MeansEntry Below node entry) ⊎ ((e : Refusal) × HoldsFault Fails node e)
  holds_total total (plain own) = inl (own, refl)
  holds_total total (list_of elem) = elim (total elem) [
    | inl (item, is) ↦ inl (list_entry item, (item, is, refl))
    | inr bad ↦ inr bad
  ]
  holds_total total (map_of key value) = elim (total key) [
    | inr (e, bad) ↦ inr (e, inl bad)
    | inl (k, is) ↦ elim (total value) [
      | inr (e, bad) ↦ inr (e, inr bad)
      | inl (v, also) ↦ inl (map_entry k v, (k, v, is, also, refl))
    ]
  ]

  holds_disjoint : ((parts : List (List ℕ)) (entry : CelTypeEntry) (e : Refusal) → Below parts entry → Fails parts e → ⊥)
      → (node : TypeNode) (entry : CelTypeEntry) (e : Refusal) → MeansEntry Below node entry → HoldsFault Fails node e → ⊥
  holds_disjoint disjoint (plain own) entry e holds bad = bad
  holds_disjoint disjoint (list_of elem) entry e (item, is, same) bad = disjoint elem item e is bad
  holds_disjoint disjoint (map_of key value) entry e (k, v, is, also, same) (inl bad) = disjoint key k e is bad
  holds_disjoint disjoint (map_of key value) entry e (k, v, is, also, same) (inr bad) = disjoint value v e also bad

module _ (Below : List (List ℕ) → CelTypeEntry → Type 0) where
  holds_unique : ((parts : List (List ℕ)) (a b : CelTypeEntry) → Below parts a → Below parts b → a ≡ b)
      → (node : TypeNode) (a b : CelTypeEntry) → MeansEntry Below node a → MeansEntry Below node b → a ≡ b
  holds_unique unique (plain own) a b x y = x ∙ sym y
  holds_unique unique (list_of elem) a b (i, is, same) (j, also, same') =
      same ∙ ap list_entry (unique elem i j is also) ∙ sym same'
  holds_unique unique (map_of key value) a b (k, v, is, also, same) (l, w, is', also', same') =
      let keys : k ≡ l = unique key k l is is' in
      let values : v ≡ w = unique value v w also also' in
      same ∙ ap (λ x. map_entry x v) keys ∙ ap (map_entry l) values ∙ sym same'

pub type_total : (depth : ℕ) (parts : List (List ℕ))
    → ((entry : CelTypeEntry) × IsTypeEntry depth parts entry) ⊎ ((e : Refusal) × TypeEntryFault depth parts e)
type_total zero parts = inr (TooLarge, refl)
type_total (suc depth) parts = elim (node_total parts) [
  | inr (e, bad) ↦ inr (e, in_type bad)
  | inl (node, is) ↦ elim (holds_total (IsTypeEntry depth) (TypeEntryFault depth) (type_total depth) node) [
    | inl (entry, holds) ↦ inl (entry, (node, is, holds))
    | inr (e, bad) ↦
        let here = inner_fault (TypeEntryFault depth) parts node e is bad in
        inr (e, in_inner here.0 here.1 here.2)
  ]
]

pub type_disjoint : (depth : ℕ) (parts : List (List ℕ)) (entry : CelTypeEntry) (e : Refusal)
    → IsTypeEntry depth parts entry → TypeEntryFault depth parts e → ⊥
type_disjoint zero parts entry e is bad = is
type_disjoint (suc depth) parts entry e (node, is, holds) (in_type bad) = node_disjoint parts node e is bad
type_disjoint (suc depth) parts entry e (node, is, holds) (in_inner inner stands bad) =
    holds_disjoint (IsTypeEntry depth) (TypeEntryFault depth) (type_disjoint depth) node entry e holds
    (inner_holds (TypeEntryFault depth) node inner e (inner_inside parts node inner is stands) bad)

pub type_unique : (depth : ℕ) (parts : List (List ℕ)) (a b : CelTypeEntry)
    → IsTypeEntry depth parts a → IsTypeEntry depth parts b → a ≡ b
type_unique zero parts a b x y = absurd x
type_unique (suc depth) parts a b (node, is, holds) (other, also, holds') =
    let P : TypeNode → Type 0 = λ n. MeansEntry (IsTypeEntry depth) n b in
    holds_unique (IsTypeEntry depth) (type_unique depth) node a b holds
    (subst P (node_unique parts other node also is) holds')
