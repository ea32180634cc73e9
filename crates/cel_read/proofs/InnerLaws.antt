-- The types that stand in a type's message are those inside it, where the message is one.
use Rattle.std.proofs.Common.{◌≡◌, ◌⊎◌, inl, inr, ℕ, List, refl, subst}
use Rattle.proto_wire.specs.Fields.{Wire}
use Rattle.proto_wire.specs.Merge.{Merges}
use Rattle.proto_wire.specs.Values.{payloads}
use Rattle.proto_wire.specs.declared.refusal.Refusal.{Refusal}
use Rattle.proto_wire.proofs.Unique.{merges_unique}
use Rattle.cel_tree.specs.TypeEntries.{TypeNode, plain, list_of, map_of, map_type_field, type_kinds, TypeSays, IsOfOtherKind, IsTypeNode, InTypeKind, IsInner}
use Rattle.cel_read.specs.private.InnerTypes.{HoldsFault}
use Rattle.cel_tree.specs.declared.kinds.TypeKind.{TypeKind}
use Rattle.cel_tree.specs.declared.kinds.TypeKind.TheVariants as kinds
use Rattle.proto_wire.proofs.Standing.{stands, stood}

-- the inner parts are those of a type inside
abbrev pub IsInside : TypeNode → List (List ℕ) → Type 0
IsInside (plain own) inner = ⊥
IsInside (list_of elem) inner = inner ≡ elem
IsInside (map_of key value) inner = (inner ≡ key) ⊎ (inner ≡ value)

-- a type inside stands in the message
in_kind : (kind : TypeKind) (n : ℕ) (run : List Wire) (node : TypeNode) (inner : List (List ℕ)) → TypeSays kind n run node
    → IsInside node inner → (own : List Wire) × Merges (payloads n run) own × InTypeKind kind own inner
in_kind kinds.Dyn n run node inner same is = absurd (rw same at is)
in_kind kinds.Primitive n run node inner (entry, at, same) is = absurd (rw same at is)
in_kind kinds.List n run node inner (fs, message, (there, same)) is = (fs, message.0, (there, rw same at is))
in_kind kinds.Map n run node inner (fs, message, (key, value, same)) is =
    let here : IsInside (map_of (payloads map_type_field.key_type fs) (payloads map_type_field.value_type fs)) inner = rw same at is in (
      fs,
      message.0,
      elim here [
        | inl at ↦ inl (key, at)
        | inr at ↦ inr (value, at)
      ],
    )

-- a type that stands in the message is inside
of_kind : (kind : TypeKind) (n : ℕ) (run : List Wire) (node : TypeNode) (own : List Wire) (inner : List (List ℕ))
    → TypeSays kind n run node → Merges (payloads n run) own → InTypeKind kind own inner → IsInside node inner
of_kind kinds.Dyn n run node own inner says merges inside = absurd inside
of_kind kinds.Primitive n run node own inner says merges inside = absurd inside
of_kind kinds.List n run node own inner (fs, message, (there, same)) merges inside =
    let P : List Wire → Type 0 = λ gs. InTypeKind kinds.List gs inner in
    let here : InTypeKind kinds.List fs inner = subst P (merges_unique (payloads n run) own fs merges message.0) inside in
    rw same here.1
of_kind kinds.Map n run node own inner (fs, message, (key, value, same)) merges inside =
    let P : List Wire → Type 0 = λ gs. InTypeKind kinds.Map gs inner in
    elim (subst P (merges_unique (payloads n run) own fs merges message.0) inside) [
      | inl (there, is) ↦ rw same (inl is)
      | inr (there, is) ↦ rw same (inr is)
    ]

not_other : (node : TypeNode) (inner : List (List ℕ)) → IsInside node inner → IsOfOtherKind node → ⊥
not_other node inner is other = rw other at is

inner_stands : (parts : List (List ℕ)) (node : TypeNode) (inner : List (List ℕ)) → IsTypeNode parts node
    → IsInside node inner → IsInner parts inner
inner_stands parts node inner (fs, message, says) is =
    stands type_kinds IsOfOtherKind TypeSays InTypeKind parts inner fs message.0 node says (IsInside node inner)
    (not_other node inner is) (λ m n run own. in_kind m n run node inner own is)

pub inner_inside : (parts : List (List ℕ)) (node : TypeNode) (inner : List (List ℕ)) → IsTypeNode parts node
    → IsInner parts inner → IsInside node inner
inner_inside parts node inner (fs, message, says) is =
    stood type_kinds IsOfOtherKind TypeSays InTypeKind parts inner fs message.0 node says (IsInside node inner)
    (λ m n run own said merges inside. of_kind m n run node own inner said merges inside) is

-- a fault of a type inside is one of a type that stands in the message
faults_stand : (Below : List (List ℕ) → Refusal → Type 0) (node : TypeNode) (e : Refusal) → HoldsFault Below node e
    → (inner : List (List ℕ)) × IsInside node inner × Below inner e
faults_stand Below (plain own) e bad = absurd bad
faults_stand Below (list_of elem) e bad = (elem, refl, bad)
faults_stand Below (map_of key value) e (inl bad) = (key, inl refl, bad)
faults_stand Below (map_of key value) e (inr bad) = (value, inr refl, bad)

pub inner_fault : (Below : List (List ℕ) → Refusal → Type 0) (parts : List (List ℕ)) (node : TypeNode) (e : Refusal)
    → IsTypeNode parts node → HoldsFault Below node e → (inner : List (List ℕ)) × IsInner parts inner × Below inner e
inner_fault Below parts node e is bad =
    let found = faults_stand Below node e bad in
    (found.0, inner_stands parts node found.0 is found.1, found.2)

-- and the other way
pub inner_holds : (Below : List (List ℕ) → Refusal → Type 0) (node : TypeNode) (inner : List (List ℕ)) (e : Refusal)
    → IsInside node inner → Below inner e → HoldsFault Below node e
inner_holds Below (plain own) inner e is bad = is
inner_holds Below (list_of elem) inner e is bad = let P : List (List ℕ) → Type 0 = λ p. Below p e in subst P is bad
inner_holds Below (map_of key value) inner e (inl is) bad =
    let P : List (List ℕ) → Type 0 = λ p. Below p e in inl (subst P is bad)
inner_holds Below (map_of key value) inner e (inr is) bad =
    let P : List (List ℕ) → Type 0 = λ p. Below p e in inr (subst P is bad)
