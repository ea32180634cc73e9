-- Entries of an expression with a type agree, or one of them is a fault; and so an expression has a
-- type with which its entries agree, or a fault.
use Rattle.std.proofs.Common.{◌⊎◌, inl, inr, ℕ, ℤ, Bool, true, false, List, [], ◌∷◌, Option, Some, None, refl, ap₂, ◌∙◌, subst}
use Rattle.std.specs.FinMap.{get}
use Rattle.proto_wire.specs.declared.refusal.Refusal.{Refusal}
use Rattle.proto_wire.specs.declared.refusal.Refusal.TheVariants.{BadReference, BadTypeEntry, Unsupported}
use Rattle.cel_value.specs.Types.{ValueType, bool_type, map_type, type_of_key}
use Rattle.cel_value.specs.declared.cel_type.KeyType.TheVariants as keys
use Rattle.cel_tree.specs.Checked.{CelReference, CelTypeEntry, of_type, dyn_type, unsupported_type}
use Rattle.cel_tree.specs.Tree.{CelTree, constant, ident, select, call, list_literal, map_literal, comprehension, CelTarget, no_target, target, CelTrees, no_trees, tree, CelTreeEntries, no_tree_entries, tree_entry}
use Rattle.cel_types.specs.Names.{joined_name, root_of, turn_scope, variables_of}
use Rattle.cel_types.specs.Typing.{IsOver, Kinds, ListRule, MapRule, Maps, SelectRule, Types, TypesAll, TypesEach, TypesPairs, TypesTarget}
use Rattle.cel_types.specs.TypingFaults.{ItemTypes, KeyTypes, SomeTypes, ElementsFault, NodeTypeFault, IdentFault, ListFault, MapsFault, PairFault, PairsFault, SelectFault, SomeFault, TargetFault, TypeFault, CallsFault}
use Rattle.cel_types.specs.TypingFaults.{unsupported_kind, another_type, in_range, in_init, in_turn, in_result}
use Rattle.cel_types.specs.Agreeing.{EachAgrees, EntriesAgree, EntryAgrees, NameAgrees, PairsAgree, SelectAgrees, TargetAgrees}
use Rattle.cel_types.proofs.OneType.{OneAtMost, one_type, over_one, select_operand}
use Rattle.cel_types.proofs.Total.{ref_decided, same_type, type_total, typed_no_root}

-- it holds, or there is a fault
abbrev pub Kept : Type 0 → (Refusal → Type 0) → Type 0
Kept P Fault = P ⊎ ((e : Refusal) × Fault e)

entry_kept : (entry : Option CelTypeEntry) (Has : ValueType → Type 0) (t : ValueType)
    → OneAtMost Has → Has t → Kept (EntryAgrees entry Has) (NodeTypeFault entry Has)
entry_kept None Has t one has = inl (λ u h. tt)
entry_kept (Some dyn_type) Has t one has = inl (λ u h. tt)
entry_kept (Some unsupported_type) Has t one has = inr (Unsupported, unsupported_kind refl refl)
entry_kept (Some (of_type s)) Has t one has = elim (same_type s t) [
  | inl e ↦ inl (λ u h. e ∙ one t u has h)
  | inr differs ↦ inr (BadTypeEntry, another_type s t has refl differs refl)
]

-- both the entry and what else is asked of a node
both : {A B : Type 0} {Own Entry : Refusal → Type 0} → Kept A Entry → Kept B Own
    → Kept (A × B) (λ e. Own e ⊎ Entry e)
both (inr (e, f)) other = inr (e, inr f)
both (inl a) (inr (e, f)) = inr (e, inl f)
both (inl a) (inl b) = inl (a, b)

name_kept : (m : Maps) (ks : Kinds) (id : ℤ) (name : List ℕ) (t : ValueType)
    → Types m ks (ident id name) t
    → Kept (NameAgrees (get m.refs id) name (Types m ks (ident id name)))
    (IdentFault (get m.refs id) ks name)
name_kept m ks id name t g = elim (ref_decided (get m.refs id) name) [
  | inl agrees ↦ inl (λ u h. agrees)
  | inr differs ↦ inr (BadReference, IdentFault.other_reference t g differs refl)
]

select_kept : (ref : Option CelReference) (root : Option (List ℕ)) (Operand : ValueType → Type 0)
    (InOperand : Refusal → Type 0) (Inside : Type 0) (field : List ℕ) (test_only : Bool)
    (t : ValueType) → SelectRule root Operand field test_only t
    → ((s : ValueType) → Operand s → Kept Inside InOperand)
    → Kept (SelectAgrees ref root field (SelectRule root Operand field test_only) Inside)
    (SelectFault ref root Operand InOperand field test_only)
select_kept ref (Some root) Operand InOperand Inside field true t rule inside = absurd rule
select_kept ref (Some root) Operand InOperand Inside field false t rule inside =
    elim (ref_decided ref (joined_name root field)) [
      | inl agrees ↦ inl (λ u h. agrees)
      | inr differs ↦
          inr (BadReference, SelectFault.other_reference root t refl refl rule differs refl)
    ]
select_kept ref None Operand InOperand Inside field test_only t rule inside =
    let on = select_operand Operand field test_only t rule in
    elim (inside (map_type keys.Text on.0) on.1) [
      | inl agrees ↦ inl agrees
      | inr (e, f) ↦ inr (e, SelectFault.in_operand refl f)
    ]

mutual
  pub entries_kept : (m : Maps) (ks : Kinds) (t : CelTree) (s : ValueType) → Types m ks t s
      → Kept (EntriesAgree m ks t) (TypeFault m ks t)
  entries_kept m ks (constant id v) s g = elim (entry_kept (get m.types id)
      (Types m ks (constant id v)) s (one_type m ks (constant id v)) g) [
        | inl agrees ↦ inl agrees
        | inr (e, f) ↦ inr (e, inr f)
      ]
  entries_kept m ks (ident id name) s g = elim (entry_kept (get m.types id)
      (Types m ks (ident id name)) s (one_type m ks (ident id name)) g) [
        | inr (e, f) ↦ inr (e, inr (typed_no_root name ks s g, f))
        | inl agrees ↦ elim (name_kept m ks id name s g) [
          | inl named ↦ inl (agrees, named)
          | inr (e, f) ↦ inr (e, inl f)
        ]
      ]
  entries_kept m ks (select id operand field test_only) s g =
      both (entry_kept (get m.types id) (Types m ks (select id operand field test_only)) s
      (one_type m ks (select id operand field test_only)) g)
      (select_kept (get m.refs id) (root_of operand ks) (Types m ks operand)
      (TypeFault m ks operand) (EntriesAgree m ks operand) field test_only s g
      (entries_kept m ks operand))
  entries_kept m ks (call id name on args) s g =
      elim (entry_kept (get m.types id) (Types m ks (call id name on args)) s
      (one_type m ks (call id name on args)) g) [
        | inr (e, f) ↦ inr (e, inr f)
        | inl agrees ↦ elim (target_kept m ks on args g.0 (each_kept m ks args) g.1) [
          | inr (e, f) ↦ inr (e, inl (CallsFault.in_operand f))
          | inl (first, others) ↦ inl (agrees, first, others)
        ]
      ]
  entries_kept m ks (list_literal id elements) s g =
      both (entry_kept (get m.types id) (Types m ks (list_literal id elements)) s
      (one_type m ks (list_literal id elements)) g)
      (list_kept m ks elements (get m.types id) s (all_kept m ks elements) g)
  entries_kept m ks (map_literal id entries) s g =
      both (entry_kept (get m.types id) (Types m ks (map_literal id entries)) s
      (one_type m ks (map_literal id entries)) g)
      (map_kept m ks entries (get m.types id) s (pairs_kept m ks entries) g)
  entries_kept m ks (comprehension id x y acc range init condition step result) s g =
      let ls = turn_scope x y acc g.each g.gathered ks in
      elim (entry_kept (get m.types id)
      (Types m ks (comprehension id x y acc range init condition step result)) s
      (one_type m ks (comprehension id x y acc range init condition step result)) g) [
        | inr (e, f) ↦ inr (e, inr f)
        | inl agrees ↦ elim (entries_kept m ks range g.walked g.range) [
          | inr (e, f) ↦ inr (e, inl (in_range f))
          | inl on_range ↦ elim (entries_kept m ks init g.gathered g.init) [
            | inr (e, f) ↦ inr (e, inl (in_init f))
            | inl on_init ↦ elim (entries_kept m ls condition bool_type g.condition) [
              | inr (e, f) ↦
                  inr (e, inl (in_turn g.each g.gathered (g.walked, g.range, g.over) g.init (inl f)))
              | inl on_condition ↦ elim (entries_kept m ls step g.gathered g.step) [
                | inr (e, f) ↦
                    inr (e, inl (in_turn g.each g.gathered (g.walked, g.range, g.over) g.init (inr f)))
                | inl on_step ↦ elim (entries_kept m ((acc, g.gathered) ∷ ks) result s g.result) [
                  | inr (e, f) ↦ inr (e, inl (in_result g.gathered g.init f))
                  | inl on_result ↦ inl (
                    agrees,
                    on_range,
                    on_init,
                    (λ w each a r over i. subst (λ ls. EntriesAgree m ls condition × EntriesAgree m ls step)
                        (ap₂ (λ each a. turn_scope x y acc each a ks)
                        (over_one (variables_of y) w g.each each (subst (λ w. IsOver (variables_of y) w g.each)
                        (one_type m ks range g.walked w g.range r) g.over) over)
                        (one_type m ks init g.gathered a g.init i)) (on_condition, on_step)),
                    (λ a i. subst (λ a. EntriesAgree m ((acc, a) ∷ ks) result)
                        (one_type m ks init g.gathered a g.init i) on_result),
                  )
                ]
              ]
            ]
          ]
        ]
      ]

  target_kept : (m : Maps) (ks : Kinds) (on : CelTarget) (args : CelTrees) (ts : List ValueType)
      → ((us : List ValueType) → TypesEach m ks args us
      → Kept (EachAgrees m ks args) (SomeFault m ks args))
      → TypesTarget m ks on (TypesEach m ks args) ts
      → Kept (TargetAgrees m ks on × EachAgrees m ks args)
      (λ e. TargetFault m ks on e ⊎ SomeFault m ks args e)
  target_kept m ks no_target args ts each g = elim (each ts g) [
    | inl others ↦ inl (tt, others)
    | inr (e, f) ↦ inr (e, inr f)
  ]
  target_kept m ks (target on) args [] each g = absurd g
  target_kept m ks (target on) args (t ∷ ts) each g = elim (entries_kept m ks on t g.0) [
    | inr (e, f) ↦ inr (e, inl f)
    | inl first ↦ elim (each ts g.1) [
      | inl others ↦ inl (first, others)
      | inr (e, f) ↦ inr (e, inr f)
    ]
  ]

  each_kept : (m : Maps) (ks : Kinds) (ts : CelTrees) (us : List ValueType)
      → TypesEach m ks ts us → Kept (EachAgrees m ks ts) (SomeFault m ks ts)
  each_kept m ks no_trees us g = inl tt
  each_kept m ks (tree t ts) [] g = absurd g
  each_kept m ks (tree t ts) (u ∷ us) g = elim (entries_kept m ks t u g.0) [
    | inr (e, f) ↦ inr (e, inl f)
    | inl first ↦ elim (each_kept m ks ts us g.1) [
      | inl others ↦ inl (first, others)
      | inr (e, f) ↦ inr (e, inr f)
    ]
  ]

  all_kept : (m : Maps) (ks : Kinds) (ts : CelTrees) (s : ValueType) → TypesAll m ks ts s
      → Kept (EachAgrees m ks ts) (SomeFault m ks ts)
  all_kept m ks no_trees s g = inl tt
  all_kept m ks (tree t ts) s g = elim (entries_kept m ks t s g.0) [
    | inr (e, f) ↦ inr (e, inl f)
    | inl first ↦ elim (all_kept m ks ts s g.1) [
      | inl others ↦ inl (first, others)
      | inr (e, f) ↦ inr (e, inr f)
    ]
  ]

  list_kept : (m : Maps) (ks : Kinds) (ts : CelTrees) (entry : Option CelTypeEntry)
      (s : ValueType) → ((u : ValueType) → TypesAll m ks ts u
      → Kept (EachAgrees m ks ts) (SomeFault m ks ts))
      → ListRule entry ts (TypesAll m ks ts) s
      → Kept (EachAgrees m ks ts)
      (ListFault entry ts (SomeTypes m ks ts) (SomeFault m ks ts))
  list_kept m ks no_trees entry s all g = inl tt
  list_kept m ks (tree t ts) entry s all g = elim (all g.0 g.1) [
    | inl agree ↦ inl agree
    | inr (e, f) ↦ inr (e, ElementsFault.in_element f)
  ]

  pairs_kept : (m : Maps) (ks : Kinds) (es : CelTreeEntries) (r s : ValueType)
      → TypesPairs m ks es r s → Kept (PairsAgree m ks es) (PairFault m ks es)
  pairs_kept m ks no_tree_entries r s g = inl tt
  pairs_kept m ks (tree_entry id key value es) r s g = elim (entries_kept m ks key r g.0) [
    | inr (e, f) ↦ inr (e, inl f)
    | inl first ↦ elim (entries_kept m ks value s g.1) [
      | inr (e, f) ↦ inr (e, inr (inl f))
      | inl second ↦ elim (pairs_kept m ks es r s g.2) [
        | inl others ↦ inl (first, second, others)
        | inr (e, f) ↦ inr (e, inr (inr f))
      ]
    ]
  ]

  map_kept : (m : Maps) (ks : Kinds) (es : CelTreeEntries) (entry : Option CelTypeEntry)
      (s : ValueType) → ((r u : ValueType) → TypesPairs m ks es r u
      → Kept (PairsAgree m ks es) (PairFault m ks es))
      → MapRule entry es (TypesPairs m ks es) s
      → Kept (PairsAgree m ks es)
      (MapsFault entry es (KeyTypes m ks es) (ItemTypes m ks es) (PairFault m ks es))
  map_kept m ks no_tree_entries entry s pairs g = inl tt
  map_kept m ks (tree_entry id key value es) entry s pairs g =
      elim (pairs (type_of_key g.0) g.1 g.2) [
        | inl agree ↦ inl agree
        | inr (e, f) ↦ inr (e, PairsFault.in_entry f)
      ]

pub typed_total : (m : Maps) (ks : Kinds) (t : CelTree)
    → ((s : ValueType) × Types m ks t s × EntriesAgree m ks t)
    ⊎ ((e : Refusal) × TypeFault m ks t e)
typed_total m ks t = elim (type_total m ks t) [
  | inr (e, f) ↦ inr (e, f)
  | inl (s, g) ↦ elim (entries_kept m ks t s g) [
    | inl agree ↦ inl (s, g, agree)
    | inr (e, f) ↦ inr (e, f)
  ]
]
