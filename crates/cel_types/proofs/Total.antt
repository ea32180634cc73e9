-- An expression has a type or a fault of typing: rule by rule, and then by recursion.
use Rattle.std.proofs.Common.{◌≡◌, ◌≢◌, ◌⊎◌, inl, inr, ℕ, Bool, true, false, List, [], ◌∷◌, Option, Some, None, option_map, refl, sym, ap, ◌∙◌, subst}
use Rattle.std.specs.Prelude.{codes}
use Rattle.std.specs.Str.{bytes_eq}
use Rattle.std.specs.Cmp.Lexicographic.{bytes_decides}
use Rattle.std.proofs.lemmas.Option.{none-some}
use Rattle.std.specs.FinMap.{get}
use Rattle.proto_wire.specs.declared.refusal.Refusal.{Refusal}
use Rattle.proto_wire.specs.declared.refusal.Refusal.TheVariants.{BadTypeEntry, Missing, NeedsType, NoOverload, OutOfRange, Unsupported, UnknownName}
use Rattle.cel_value.specs.Values.{CelValue}
use Rattle.cel_value.specs.Types.{ValueType, bool_type, int_type, uint_type, text_type, bytes_type, list_type, map_type, type_eq, type_of_key}
use Rattle.cel_value.specs.private.EqualityLaws.{type_eq_decides}
use Rattle.cel_value.specs.declared.cel_type.KeyType.{KeyType}
use Rattle.cel_value.specs.declared.cel_type.KeyType.TheVariants as keys
use Rattle.cel_tree.specs.Checked.{CelReference, CelTypeEntry, of_type, dyn_type, unsupported_type}
use Rattle.cel_tree.specs.Tree.{CelTree, constant, ident, select, call, list_literal, map_literal, comprehension, CelTarget, no_target, target, CelTrees, no_trees, tree, CelTreeEntries, no_tree_entries, tree_entry}
use Rattle.cel_overload.specs.declared.overload.OverloadFault.TheVariants as calls
use Rattle.cel_overload.proofs.OneOverload.{call_total}
use Rattle.attributes.specs.declared.attribute.AttrId.{AttrId}
use Rattle.cel_ops.specs.Attributes.{attribute_type}
use Rattle.cel_types.specs.Attributes.{attribute_named}
use Rattle.cel_types.specs.Names.{bare_root, is_root, joined_name, local, root_of, turn_scope, variables_of}
use Rattle.cel_types.specs.Typing.{IsList, IsMap, IsOver, Kinds, ListRule, LoopRule, MapRule, Maps, NamesFault, RefAgrees, SelectRule, Types, TypesAll, TypesEach, TypesPairs, TypesTarget, constant_type, has_target, name_type}
use Rattle.cel_types.specs.TypingFaults.{CallsFault, ElementsFault, EmptyFault, NodeTypeFault, IdentFault, ItemTypes, KeyTypes, ListFault, LoopFault, MapsFault, PairFault, PairsFault, SelectFault, SomeFault, SomeTypes, TargetFault, TypeFault}
use Rattle.cel_types.specs.TypingFaults.{unsupported_kind, unstated, of_another_kind, in_names, no_elements, no_condition, no_step, in_range, in_init, in_turn, in_result}
use Rattle.cel_types.specs.private.Rules.{CallRule, IdentRule, NamesDiffer, RefDiffers, UnsupportedConstant}
use Rattle.cel_types.specs.declared.typed.Variables.{Variables}
use Rattle.cel_types.specs.declared.typed.Variables.TheVariants as variables

-- a type by a rule, or a fault
abbrev pub Decided : (ValueType → Type 0) → (Refusal → Type 0) → Type 0
Decided Rule Fault = ((t : ValueType) × Rule t) ⊎ ((e : Refusal) × Fault e)

pub same_type : (s t : ValueType) → (s ≡ t) ⊎ (s ≢ t)
same_type s t = at (type_eq s t) refl
  where
    at : (b : Bool) → type_eq s t ≡ b → (s ≡ t) ⊎ (s ≢ t)
    at true e = inl ((type_eq_decides s t).0 e)
    at false e = inr (λ k. let same : type_eq s t ≡ true = (type_eq_decides s t).1 k in cc)

same_name : (a b : List ℕ) → (a ≡ b) ⊎ (a ≢ b)
same_name a b = at (bytes_eq a b) refl
  where
    at : (t : Bool) → bytes_eq a b ≡ t → (a ≡ b) ⊎ (a ≢ b)
    at true e = inl ((bytes_decides a b).0 e)
    at false e = inr (λ k. let same : bytes_eq a b ≡ true = (bytes_decides a b).1 k in cc)

-- ---- rules

constant_total : (v : CelValue) → Decided (λ t. constant_type v ≡ Some t) (UnsupportedConstant v)
constant_total v = at (constant_type v) refl
  where
    at : (o : Option ValueType) → constant_type v ≡ o
        → Decided (λ t. constant_type v ≡ Some t) (UnsupportedConstant v)
    at None e = inr (Unsupported, (e, refl))
    at (Some t) e = inl (t, e)

pub ref_decided : (ref : Option CelReference) (name : List ℕ) → RefAgrees ref name ⊎ RefDiffers ref name
ref_decided None name = inl tt
ref_decided (Some r) name = elim (same_name r.name name) [
  | inl e ↦ value r.value refl e
  | inr differs ↦ inr (λ a. differs a.0)
]
  where
    value : (o : Option CelValue) → r.value ≡ o → r.name ≡ name
        → RefAgrees (Some r) name ⊎ RefDiffers (Some r) name
    value None is e = inl (e, is)
    value (Some v) is e = inr (λ a. none-some v (sym a.1 ∙ is))

ident_total : (ref : Option CelReference) (ks : Kinds) (name : List ℕ)
    → Decided (IdentRule ks name) (IdentFault ref ks name)
ident_total ref ks name = at (name_type name (local name ks)) refl
  where
    at : (o : Option ValueType) → name_type name (local name ks) ≡ o
        → Decided (IdentRule ks name) (IdentFault ref ks name)
    at None e = inr (UnknownName, IdentFault.unknown e refl)
    at (Some t) e = inl (t, e)

-- a type of maps with names, and of what
names_of : (s : ValueType) → ((t : ValueType) × (s ≡ map_type keys.Text t))
    ⊎ ((t : ValueType) → s ≢ map_type keys.Text t)
names_of (map_type keys.Text t) = inl (t, refl)
names_of (map_type keys.Bool t) = inr (λ u e. cc)
names_of (map_type keys.Int t) = inr (λ u e. cc)
names_of (map_type keys.Uint t) = inr (λ u e. cc)
names_of bool_type = inr (λ u e. cc)
names_of int_type = inr (λ u e. cc)
names_of uint_type = inr (λ u e. cc)
names_of text_type = inr (λ u e. cc)
names_of bytes_type = inr (λ u e. cc)
names_of (list_type t) = inr (λ u e. cc)

select_total : (ref : Option CelReference) (root : Option (List ℕ)) (Operand : ValueType → Type 0)
    (InOperand : Refusal → Type 0) (field : List ℕ) (test_only : Bool)
    → Decided Operand InOperand
    → Decided (SelectRule root Operand field test_only)
    (SelectFault ref root Operand InOperand field test_only)
select_total ref (Some root) Operand InOperand field true inside =
    inr (UnknownName, SelectFault.asked root refl refl refl)
select_total ref (Some root) Operand InOperand field false inside =
    at (attribute_named (joined_name root field)) refl
  where
    at : (o : Option AttrId) → attribute_named (joined_name root field) ≡ o
        → Decided (SelectRule (Some root) Operand field false)
        (SelectFault ref (Some root) Operand InOperand field false)
    at None e = inr (UnknownName, SelectFault.unknown root refl e refl)
    at (Some a) e = inl (attribute_type a, ap (option_map attribute_type) e)
select_total ref None Operand InOperand field test_only (inr (e, f)) =
    inr (e, SelectFault.in_operand refl f)
select_total ref None Operand InOperand field test_only (inl (s, h)) = elim (names_of s) [
  | inl (t, is) ↦ inl (named test_only t (subst Operand is h))
  | inr never ↦ inr (NoOverload, SelectFault.no_names s refl h never refl)
]
  where
    named : (test_only : Bool) (t : ValueType) → Operand (map_type keys.Text t)
        → (u : ValueType) × SelectRule None Operand field test_only u
    named true t on = (bool_type, ((t, on), refl))
    named false t on = (t, on)

call_decided : (name : List ℕ) (on : Bool) (Operands : List ValueType → Type 0)
    (InOperands : Refusal → Type 0)
    → ((ts : List ValueType) × Operands ts) ⊎ ((e : Refusal) × InOperands e)
    → Decided (CallRule name on Operands) (CallsFault name on Operands InOperands)
call_decided name on Operands InOperands (inr (e, f)) = inr (e, CallsFault.in_operand f)
call_decided name on Operands InOperands (inl (ts, h)) = elim (call_total name on ts) [
  | inl (o, r, c) ↦ inl (r, (ts, h, o, c))
  | inr (calls.UnknownName, f) ↦ inr (UnknownName, CallsFault.unknown f refl)
  | inr (calls.NoOverload, f) ↦ inr (NoOverload, CallsFault.no_overload f.0 ts f.1 h f.2 refl)
]

-- what an empty literal is by its entry
empty_decided : (entry : Option CelTypeEntry) (IsKind : ValueType → Type 0)
    → ((t : ValueType) → IsKind t ⊎ (IsKind t → ⊥))
    → Decided (λ t. (entry ≡ Some (of_type t)) × IsKind t)
    (λ e. EmptyFault entry IsKind e ⊎ NodeTypeFault entry (λ t. (entry ≡ Some (of_type t)) × IsKind t) e)
empty_decided None IsKind decide = inr (NeedsType, inl (unstated (inl refl) refl))
empty_decided (Some dyn_type) IsKind decide = inr (NeedsType, inl (unstated (inr refl) refl))
empty_decided (Some unsupported_type) IsKind decide =
    inr (Unsupported, inr (unsupported_kind refl refl))
empty_decided (Some (of_type s)) IsKind decide = elim (decide s) [
  | inl kind ↦ inl (s, (refl, kind))
  | inr never ↦ inr (BadTypeEntry, inl (of_another_kind s refl never refl))
]

list_kind : (t : ValueType) → IsList t ⊎ (IsList t → ⊥)
list_kind (list_type t) = inl tt
list_kind (map_type k t) = inr (λ h. h)
list_kind bool_type = inr (λ h. h)
list_kind int_type = inr (λ h. h)
list_kind uint_type = inr (λ h. h)
list_kind text_type = inr (λ h. h)
list_kind bytes_type = inr (λ h. h)

map_kind : (t : ValueType) → IsMap t ⊎ (IsMap t → ⊥)
map_kind (map_type k t) = inl tt
map_kind (list_type t) = inr (λ h. h)
map_kind bool_type = inr (λ h. h)
map_kind int_type = inr (λ h. h)
map_kind uint_type = inr (λ h. h)
map_kind text_type = inr (λ h. h)
map_kind bytes_type = inr (λ h. h)

-- a type of keys
key_kind : (t : ValueType) → ((k : KeyType) × (t ≡ type_of_key k)) ⊎ ((k : KeyType) → t ≢ type_of_key k)
key_kind bool_type = inl (keys.Bool, refl)
key_kind int_type = inl (keys.Int, refl)
key_kind uint_type = inl (keys.Uint, refl)
key_kind text_type = inl (keys.Text, refl)
key_kind bytes_type = inr other
  where
    other : (k : KeyType) → bytes_type ≢ type_of_key k
    other keys.Bool e = cc
    other keys.Int e = cc
    other keys.Uint e = cc
    other keys.Text e = cc
key_kind (list_type t) = inr other
  where
    other : (k : KeyType) → list_type t ≢ type_of_key k
    other keys.Bool e = cc
    other keys.Int e = cc
    other keys.Uint e = cc
    other keys.Text e = cc
key_kind (map_type j t) = inr other
  where
    other : (k : KeyType) → map_type j t ≢ type_of_key k
    other keys.Bool e = cc
    other keys.Int e = cc
    other keys.Uint e = cc
    other keys.Text e = cc

-- what the variables get from a range
range_kind : (vars : Variables) (s : ValueType)
    → ((each : List ValueType) × IsOver vars s each) ⊎ ((each : List ValueType) → IsOver vars s each → ⊥)
range_kind variables.One (list_type t) = inl (t ∷ [], refl)
range_kind variables.One (map_type k t) = inl (type_of_key k ∷ [], refl)
range_kind variables.One _ = inr (λ each h. h)
range_kind variables.Two (list_type t) = inl (t ∷ int_type ∷ [], refl)
range_kind variables.Two (map_type k t) = inl (t ∷ type_of_key k ∷ [], refl)
range_kind variables.Two _ = inr (λ each h. h)

-- ---- elements and pairs of one type

-- keys and values in turn have the types
abbrev TypesInTurn : Maps → Kinds → CelTreeEntries → List ValueType → Type 0
TypesInTurn m ks no_tree_entries [] = Unit {0}
TypesInTurn m ks no_tree_entries (t ∷ ts) = ⊥
TypesInTurn m ks (tree_entry id key value es) [] = ⊥
TypesInTurn m ks (tree_entry id key value es) (s ∷ []) = ⊥
TypesInTurn m ks (tree_entry id key value es) (s ∷ t ∷ ts) =
    Types m ks key s × Types m ks value t × TypesInTurn m ks es ts

module _ (m : Maps) (ks : Kinds) where
  -- some has another type
  abbrev Differs : (ValueType → Type 0) → ValueType → Type 0
  Differs Has s = (t : ValueType) × Has t × (s ≢ t)

  all_decided : (ts : CelTrees) (us : List ValueType) (s : ValueType) → TypesEach m ks ts us
      → TypesAll m ks ts s ⊎ Differs (SomeTypes m ks ts) s
  all_decided no_trees us s h = inl tt
  all_decided (tree t ts) [] s h = absurd h
  all_decided (tree t ts) (u ∷ us) s h = elim (same_type s u) [
    | inr differs ↦ inr (u, inl h.0, differs)
    | inl e ↦ elim (all_decided ts us s h.1) [
      | inl others ↦ inl (subst (λ v. Types m ks t v) (sym e) h.0, others)
      | inr (v, some, differs) ↦ inr (v, inr some, differs)
    ]
  ]

  pairs_decided : (es : CelTreeEntries) (us : List ValueType) (r s : ValueType)
      → TypesInTurn m ks es us → TypesPairs m ks es r s
      ⊎ (Differs (KeyTypes m ks es) r ⊎ Differs (ItemTypes m ks es) s)
  pairs_decided no_tree_entries us r s h = inl tt
  pairs_decided (tree_entry id key value es) [] r s h = absurd h
  pairs_decided (tree_entry id key value es) (t ∷ []) r s h = absurd h
  pairs_decided (tree_entry id key value es) (t ∷ u ∷ us) r s h = elim (same_type r t) [
    | inr differs ↦ inr (inl (t, inl h.0, differs))
    | inl d ↦ elim (same_type s u) [
      | inr differs ↦ inr (inr (u, inl h.1, differs))
      | inl e ↦ elim (pairs_decided es us r s h.2) [
        | inl others ↦ inl (
          subst (λ v. Types m ks key v) (sym d) h.0,
          subst (λ v. Types m ks value v) (sym e) h.1,
          others,
        )
        | inr (inl (v, some, differs)) ↦ inr (inl (v, inr some, differs))
        | inr (inr (v, some, differs)) ↦ inr (inr (v, inr some, differs))
      ]
    ]
  ]

  list_decided : (entry : Option CelTypeEntry) (ts : CelTrees)
      → ((us : List ValueType) × TypesEach m ks ts us) ⊎ ((e : Refusal) × SomeFault m ks ts e)
      → Decided (ListRule entry ts (TypesAll m ks ts))
      (λ e. ListFault entry ts (SomeTypes m ks ts) (SomeFault m ks ts) e
      ⊎ NodeTypeFault entry (ListRule entry ts (TypesAll m ks ts)) e)
  list_decided entry no_trees each = empty_decided entry IsList list_kind
  list_decided entry (tree t ts) (inr (e, f)) = inr (e, inl (ElementsFault.in_element f))
  list_decided entry (tree t ts) (inl ([], h)) = absurd h
  list_decided entry (tree t ts) (inl (u ∷ us, h)) = elim (all_decided (tree t ts) (u ∷ us) u h) [
    | inl all ↦ inl (list_type u, (u, all, refl))
    | inr (v, some, differs) ↦
        inr (NoOverload, inl (ElementsFault.two_types u v (inl h.0) some differs refl))
  ]

  map_decided : (entry : Option CelTypeEntry) (es : CelTreeEntries)
      → ((us : List ValueType) × TypesInTurn m ks es us) ⊎ ((e : Refusal) × PairFault m ks es e)
      → Decided (MapRule entry es (TypesPairs m ks es))
      (λ e. MapsFault entry es (KeyTypes m ks es) (ItemTypes m ks es) (PairFault m ks es) e
      ⊎ NodeTypeFault entry (MapRule entry es (TypesPairs m ks es)) e)
  map_decided entry no_tree_entries each = empty_decided entry IsMap map_kind
  map_decided entry (tree_entry id key value es) (inr (e, f)) = inr (e, inl (PairsFault.in_entry f))
  map_decided entry (tree_entry id key value es) (inl ([], h)) = absurd h
  map_decided entry (tree_entry id key value es) (inl (t ∷ [], h)) = absurd h
  map_decided entry (tree_entry id key value es) (inl (t ∷ u ∷ us, h)) = elim (key_kind t) [
    | inr never ↦ inr (NoOverload, inl (PairsFault.no_key_type t (inl h.0) never refl))
    | inl (k, is) ↦ elim (pairs_decided (tree_entry id key value es) (t ∷ u ∷ us) t u h) [
      | inl all ↦ inl (
        map_type k u,
        (k, u, subst (λ v. TypesPairs m ks (tree_entry id key value es) v u) is all, refl),
      )
      | inr (inl (v, some, differs)) ↦
          inr (NoOverload, inl (PairsFault.two_key_types t v (inl h.0) some differs refl))
      | inr (inr (v, some, differs)) ↦
          inr (NoOverload, inl (PairsFault.two_value_types u v (inl h.1) some differs refl))
    ]
  ]

-- ---- comprehensions

-- names that differ have no fault
pub names_faultless : (x y acc : List ℕ) → NamesDiffer x y acc → (e : Refusal) → NamesFault x y acc e → ⊥
names_faultless x y acc names e (inl fault) = names.element fault.0
names_faultless x y acc names e (inr (inl fault)) = names.gathered fault.0
names_faultless x y acc names e (inr (inr (inl fault))) = names.differ fault.0
names_faultless x y acc names e (inr (inr (inr (some, inl is, _)))) = names.second is
names_faultless x y acc names e (inr (inr (inr (some, inr is, _)))) = names.apart is

names_decided : (x y acc : List ℕ) → NamesDiffer x y acc ⊎ ((e : Refusal) × NamesFault x y acc e)
names_decided [] y acc = inr (Missing, inl (refl, refl))
names_decided (c ∷ x) y [] = inr (Missing, inr (inl (refl, refl)))
names_decided (c ∷ x) y (d ∷ acc) = elim (same_name (c ∷ x) (d ∷ acc)) [
  | inl e ↦ inr (OutOfRange, inr (inr (inl (e, refl))))
  | inr differs ↦ elim (same_name (c ∷ x) y) [
    | inl e ↦ inr (OutOfRange, inr (inr (inr (λ none. let clash : c ∷ x ≡ [] = e ∙ none in cc, inl e, refl))))
    | inr second ↦ elim (same_name y (d ∷ acc)) [
      | inl e ↦ inr (OutOfRange, inr (inr (inr (λ none. let clash : d ∷ acc ≡ [] = sym e ∙ none in cc, inr e, refl))))
      | inr apart ↦ inl (record {
        element = λ e. cc;
        gathered = λ e. cc;
        differ = differs;
        second = second;
        apart = apart;
      })
    ]
  ]
]

module _ (x y acc : List ℕ) (Range Init : ValueType → Type 0)
    (Condition Step : List ValueType → ValueType → ValueType → Type 0)
    (Result : ValueType → ValueType → Type 0) (InRange InInit : Refusal → Type 0)
    (InCondition InStep : List ValueType → ValueType → Refusal → Type 0)
    (InResult : ValueType → Refusal → Type 0)
    (range : Decided Range InRange) (init : Decided Init InInit)
    (condition : (each : List ValueType) (a : ValueType) → Decided (Condition each a) (InCondition each a))
    (step : (each : List ValueType) (a : ValueType) → Decided (Step each a) (InStep each a))
    (result : (a : ValueType) → Decided (Result a) (InResult a)) where
  abbrev Fault : Refusal → Type 0
  Fault = LoopFault x y acc Range Init Condition Step InRange InInit
      (λ each a e. InCondition each a e ⊎ InStep each a e) InResult

  abbrev Loop : Type 0
  Loop = Decided (LoopRule x y acc Range Init Condition Step Result) Fault

  parts_total : NamesDiffer x y acc → (w : ValueType) (each : List ValueType) (a : ValueType) → Range w
      → IsOver (variables_of y) w each → Init a → Decided (Condition each a) (InCondition each a)
      → Decided (Step each a) (InStep each a) → Decided (Result a) (InResult a) → Loop
  parts_total names w each a r over i (inr (e, f)) step' result' =
      inr (e, in_turn each a (w, r, over) i (inl f))
  parts_total names w each a r over i (inl c) (inr (e, f)) result' =
      inr (e, in_turn each a (w, r, over) i (inr f))
  parts_total names w each a r over i (inl c) (inl p) (inr (e, f)) = inr (e, in_result a i f)
  parts_total names w each a r over i (inl (t, c)) (inl (u, p)) (inl (v, q)) =
      elim (same_type t bool_type) [
        | inr differs ↦ inr (NoOverload, no_condition each a t (w, r, over) i c differs refl)
        | inl is_bool ↦ elim (same_type u a) [
          | inr differs ↦ inr (NoOverload, no_step each a u (w, r, over) i p differs refl)
          | inl keeps ↦ inl (
            v,
            record {
              names = names_faultless x y acc names;
              walked = w;
              each = each;
              gathered = a;
              range = r;
              over = over;
              init = i;
              condition = subst (λ t. Condition each a t) is_bool c;
              step = subst (λ u. Step each a u) keeps p;
              result = q;
            },
          )
        ]
      ]

  loop_total : Loop
  loop_total = elim (names_decided x y acc) [
    | inr (e, f) ↦ inr (e, in_names f)
    | inl names ↦ elim range [
      | inr (e, f) ↦ inr (e, in_range f)
      | inl (w, r) ↦ elim init [
        | inr (e, f) ↦ inr (e, in_init f)
        | inl (a, i) ↦ elim (range_kind (variables_of y) w) [
          | inr never ↦ inr (NoOverload, no_elements w r never refl)
          | inl (each, over) ↦
              parts_total names w each a r over i (condition each a) (step each a) (result a)
        ]
      ]
    ]
  ]

-- ---- an Ident with a type is no bare root

root_unnamed : (name : List ℕ) → is_root name ≡ true → attribute_named name ≡ None
root_unnamed name e = at (bytes_eq name (codes "request")) (bytes_eq name (codes "source"))
    (bytes_eq name (codes "destination")) (bytes_eq name (codes "connection")) refl refl refl refl e
  where
    at : (p q r s : Bool) → bytes_eq name (codes "request") ≡ p
        → bytes_eq name (codes "source") ≡ q → bytes_eq name (codes "destination") ≡ r
        → bytes_eq name (codes "connection") ≡ s
        → is_root name ≡ true → attribute_named name ≡ None
    at true q r s a b c d e = ap attribute_named ((bytes_decides name (codes "request")).0 a)
    at false true r s a b c d e = ap attribute_named ((bytes_decides name (codes "source")).0 b)
    at false false true s a b c d e =
        ap attribute_named ((bytes_decides name (codes "destination")).0 c)
    at false false false true a b c d e =
        ap attribute_named ((bytes_decides name (codes "connection")).0 d)
    at false false false false a b c d e =
        let never : is_root name ≡ false = rw (a, b, c, d) refl in cc

pub typed_no_root : (name : List ℕ) (ks : Kinds) (t : ValueType)
    → name_type name (local name ks) ≡ Some t → bare_root name ks ≡ false
typed_no_root name ks t e = at (local name ks) refl
  where
    root : (b : Bool) → is_root name ≡ b → local name ks ≡ None → is_root name ≡ false
    root false is none = is
    root true is none = absurd (none-some t
        (sym (ap (option_map attribute_type) (root_unnamed name is))
        ∙ subst (λ o. name_type name o ≡ Some t) none e))

    at : (o : Option ValueType) → local name ks ≡ o → bare_root name ks ≡ false
    at (Some u) is = rw is refl
    at None is = rw is (root (is_root name) refl is)

-- ---- expressions

abbrev pub TypeOrFault : Maps → Kinds → CelTree → Type 0
TypeOrFault m ks t = Decided (λ s. Types m ks t s) (TypeFault m ks t)

-- the fault of a rule is a fault of the node
own : {Rule : ValueType → Type 0} {Own Entry : Refusal → Type 0} → Decided Rule Own
    → Decided Rule (λ e. Own e ⊎ Entry e)
own (inl typed) = inl typed
own (inr (e, f)) = inr (e, inl f)

mutual
  pub type_total : (m : Maps) (ks : Kinds) (t : CelTree) → TypeOrFault m ks t
  type_total m ks (constant id v) = own (constant_total v)
  type_total m ks (ident id name) = own (ident_total (get m.refs id) ks name)
  type_total m ks (select id operand field test_only) =
      own (select_total (get m.refs id) (root_of operand ks) (Types m ks operand)
      (TypeFault m ks operand) field test_only (type_total m ks operand))
  type_total m ks (call id name on args) =
      own (call_decided name (has_target on) (TypesTarget m ks on (TypesEach m ks args))
      (λ d. TargetFault m ks on d ⊎ SomeFault m ks args d)
      (target_total m ks on args (each_total m ks args)))
  type_total m ks (list_literal id elements) =
      list_decided m ks (get m.types id) elements (each_total m ks elements)
  type_total m ks (map_literal id entries) =
      map_decided m ks (get m.types id) entries (turn_total m ks entries)
  type_total m ks (comprehension id x y acc range init condition step result) =
      own (loop_total x y acc (Types m ks range) (Types m ks init)
      (λ each a. Types m (turn_scope x y acc each a ks) condition)
      (λ each a. Types m (turn_scope x y acc each a ks) step)
      (λ a. Types m ((acc, a) ∷ ks) result) (TypeFault m ks range) (TypeFault m ks init)
      (λ each a. TypeFault m (turn_scope x y acc each a ks) condition)
      (λ each a. TypeFault m (turn_scope x y acc each a ks) step)
      (λ a. TypeFault m ((acc, a) ∷ ks) result)
      (type_total m ks range) (type_total m ks init)
      (λ each a. type_total m (turn_scope x y acc each a ks) condition)
      (λ each a. type_total m (turn_scope x y acc each a ks) step)
      (λ a. type_total m ((acc, a) ∷ ks) result))

  target_total : (m : Maps) (ks : Kinds) (on : CelTarget) (args : CelTrees)
      → ((us : List ValueType) × TypesEach m ks args us) ⊎ ((e : Refusal) × SomeFault m ks args e)
      → ((us : List ValueType) × TypesTarget m ks on (TypesEach m ks args) us)
      ⊎ ((e : Refusal) × (TargetFault m ks on e ⊎ SomeFault m ks args e))
  target_total m ks no_target args (inl h) = inl h
  target_total m ks on args (inr (e, f)) = inr (e, inr f)
  target_total m ks (target on) args (inl (us, h)) = elim (type_total m ks on) [
    | inl (t, g) ↦ inl (t ∷ us, (g, h))
    | inr (e, f) ↦ inr (e, inl f)
  ]

  each_total : (m : Maps) (ks : Kinds) (ts : CelTrees)
      → ((us : List ValueType) × TypesEach m ks ts us) ⊎ ((e : Refusal) × SomeFault m ks ts e)
  each_total m ks no_trees = inl ([], tt)
  each_total m ks (tree t ts) = elim (type_total m ks t) [
    | inr (e, f) ↦ inr (e, inl f)
    | inl (u, g) ↦ elim (each_total m ks ts) [
      | inr (e, f) ↦ inr (e, inr f)
      | inl (us, h) ↦ inl (u ∷ us, (g, h))
    ]
  ]

  turn_total : (m : Maps) (ks : Kinds) (es : CelTreeEntries)
      → ((us : List ValueType) × TypesInTurn m ks es us) ⊎ ((e : Refusal) × PairFault m ks es e)
  turn_total m ks no_tree_entries = inl ([], tt)
  turn_total m ks (tree_entry id key value es) = elim (type_total m ks key) [
    | inr (e, f) ↦ inr (e, inl f)
    | inl (s, g) ↦ elim (type_total m ks value) [
      | inr (e, f) ↦ inr (e, inr (inl f))
      | inl (t, h) ↦ elim (turn_total m ks es) [
        | inr (e, f) ↦ inr (e, inr (inr f))
        | inl (us, k) ↦ inl (s ∷ t ∷ us, (g, h, k))
      ]
    ]
  ]
