-- The payloads of a checked expression are one or have a fault, never both, and are one at most.
use Rattle.std.proofs.Common.{◌≡◌, ◌≢◌, ◌≤◌, ◌⊎◌, inl, inr, ℕ, zero, suc, List, [], arith, refl, subst, sym, ◌∙◌}
use Rattle.std.proofs.lemmas.Bool.{cases_lt}
use Rattle.std.specs.FinMap.{empty}
use Rattle.proto_wire.specs.Fields.{Wire}
use Rattle.proto_wire.specs.Maps.{int64}
use Rattle.proto_wire.specs.Merge.{Merges}
use Rattle.proto_wire.specs.Values.{payloads}
use Rattle.proto_wire.specs.declared.refusal.Refusal.{Refusal}
use Rattle.proto_wire.specs.declared.refusal.Refusal.TheVariants.{Missing, TooLarge}
use Rattle.proto_wire.proofs.WholeMaps.{map_total, map_disjoint, map_unique}
use Rattle.cel_tree.specs.Checked.{CelChecked}
use Rattle.cel_tree.specs.Message.{most_nodes, tree_depth, checked_field, checked_keys, CheckedSays, CheckedLacks, CheckedWrong, in_expression, in_types, in_refs, IsChecked, CheckedFault, IsUnchecked, UncheckedFault, ExprParts, checked_parts, unchecked_parts, IsExprOf, ExprFault, ArePresent}
use Rattle.proto_wire.specs.private.Values.{ValuesFault}
use Rattle.cel_tree.specs.References.{IsReference, ReferenceFault}
use Rattle.cel_tree.specs.Tree.{CelTree}
use Rattle.cel_tree.specs.Nodes.{node_kinds, MemberSays}
use Rattle.proto_wire.specs.Reading.{OneofSays, Never}
use Rattle.cel_tree.specs.Trees.{IsTree, node_count}
use Rattle.cel_tree.specs.TypeEntries.{IsTypeEntry, TypeEntryFault}
use Rattle.cel_read.proofs.Basics.{nil_or_not}
use Rattle.cel_read.proofs.Counting.{nodes_there}
use Rattle.proto_wire.proofs.ReadingLaws.{reads_total, reads_disjoint, reads_unique}
use Rattle.cel_read.proofs.ReferenceLaws.{reference_total, reference_disjoint, reference_unique}
use Rattle.cel_read.proofs.TreeLaws.{tree_total, tree_disjoint, tree_unique, nodes_most}
use Rattle.cel_read.proofs.TypeLaws.{type_total, type_disjoint, type_unique}

-- ---- checked expressions

nodes_total : (fs : List Wire) → payloads checked_field.expr fs ≢ [] → (t : CelTree) → IsTree tree_depth (payloads checked_field.expr fs) t
    → (node_count t ≤ most_nodes) ⊎ CheckedWrong fs TooLarge
nodes_total fs there t is = elim (cases_lt most_nodes (node_count t)) [
  | inl many ↦ inr (in_expression (there, inr (node_count t, nodes_there tree_depth (payloads checked_field.expr fs) t is, many, refl)))
  | inr few ↦ inl few
]

maps_total : (fs : List Wire) → payloads checked_field.expr fs ≢ [] → (t : CelTree) → IsTree tree_depth (payloads checked_field.expr fs) t
    → node_count t ≤ most_nodes
    → ((c : CelChecked) × CheckedSays fs c) ⊎ ((e : Refusal) × ValuesFault CheckedLacks CheckedWrong fs e)
maps_total fs there t is few =
    elim (map_total int64 (IsTypeEntry tree_depth) (TypeEntryFault tree_depth) (type_total tree_depth) (payloads checked_field.type_map fs)) [
      | inr (e, bad) ↦ inr (e, inr (in_types bad))
      | inl (types, typed) ↦ elim (map_total int64 IsReference ReferenceFault reference_total (payloads checked_field.reference_map fs)) [
        | inr (e, bad) ↦ inr (e, inr (in_refs bad))
        | inl (refs, referred) ↦ inl (
          record { tree = t; types = types; refs = refs },
          record { there = there; tree = is; few = few; types = typed; refs = referred },
        )
      ]
    ]

says_total : (fs : List Wire) → ((c : CelChecked) × CheckedSays fs c) ⊎ ((e : Refusal) × ValuesFault CheckedLacks CheckedWrong fs e)
says_total fs = elim (nil_or_not (payloads checked_field.expr fs)) [
  | inl none ↦ inr (Missing, inl (none, refl))
  | inr there ↦ elim (tree_total tree_depth (payloads checked_field.expr fs)) [
    | inr (e, bad) ↦ inr (e, inr (in_expression (there, inl bad)))
    | inl (t, is) ↦ elim (nodes_total fs there t is) [
      | inr many ↦ inr (TooLarge, inr many)
      | inl few ↦ maps_total fs there t is few
    ]
  ]
]

says_disjoint : (fs : List Wire) (c : CelChecked) (e : Refusal) → CheckedSays fs c → ValuesFault CheckedLacks CheckedWrong fs e → ⊥
says_disjoint fs c e says (inl lacks) = says.there lacks.0
says_disjoint fs c e says (inr (in_expression (there, inl bad))) = tree_disjoint tree_depth (payloads checked_field.expr fs) c.tree e says.tree bad
says_disjoint fs c e says (inr (in_expression (there, inr (n, has, many, is)))) =
    let most : n ≤ node_count c.tree = nodes_most tree_depth (payloads checked_field.expr fs) c.tree n says.tree has in
    let few : node_count c.tree ≤ most_nodes = says.few in
    absurd (omega (arith, most, few, many))
says_disjoint fs c e says (inr (in_types bad)) =
    map_disjoint int64 (IsTypeEntry tree_depth) (TypeEntryFault tree_depth) (type_disjoint tree_depth) (payloads checked_field.type_map fs) c.types e says.types bad
says_disjoint fs c e says (inr (in_refs bad)) =
    map_disjoint int64 IsReference ReferenceFault reference_disjoint (payloads checked_field.reference_map fs) c.refs e says.refs bad

says_unique : (fs : List Wire) (c d : CelChecked) → CheckedSays fs c → CheckedSays fs d → c ≡ d
says_unique fs c d a b =
    let tree : c.tree ≡ d.tree = tree_unique tree_depth (payloads checked_field.expr fs) c.tree d.tree a.tree b.tree in
    let types : c.types ≡ d.types = map_unique int64 (IsTypeEntry tree_depth) (type_unique tree_depth) (payloads checked_field.type_map fs) c.types d.types a.types b.types in
    let refs : c.refs ≡ d.refs = map_unique int64 IsReference reference_unique (payloads checked_field.reference_map fs) c.refs d.refs a.refs b.refs in
    λ i. record { tree = tree i; types = types i; refs = refs i }

pub checked_total : (parts : List (List ℕ)) → ((c : CelChecked) × IsChecked parts c) ⊎ ((e : Refusal) × CheckedFault parts e)
checked_total = reads_total checked_keys CheckedSays CheckedLacks CheckedWrong says_total

pub checked_disjoint : (parts : List (List ℕ)) (c : CelChecked) (e : Refusal) → IsChecked parts c → CheckedFault parts e → ⊥
checked_disjoint = reads_disjoint checked_keys CheckedSays CheckedLacks CheckedWrong says_disjoint

pub checked_unique : (parts : List (List ℕ)) (c d : CelChecked) → IsChecked parts c → IsChecked parts d → c ≡ d
checked_unique = reads_unique checked_keys CheckedSays says_unique

-- ---- expressions without entries

unchecked_total : (parts : List (List ℕ)) → ((c : CelChecked) × IsUnchecked parts c) ⊎ ((e : Refusal) × UncheckedFault parts e)
unchecked_total parts = elim (tree_total tree_depth parts) [
  | inr (e, bad) ↦ inr (e, inl bad)
  | inl (t, is) ↦ elim (cases_lt most_nodes (node_count t)) [
    | inl many ↦ inr (TooLarge, inr (node_count t, nodes_there tree_depth parts t is, many, refl))
    | inr few ↦ inl (record { tree = t; types = empty; refs = empty }, record { tree = is; few = few; types = refl; refs = refl })
  ]
]

unchecked_disjoint : (parts : List (List ℕ)) (c : CelChecked) (e : Refusal) → IsUnchecked parts c → UncheckedFault parts e → ⊥
unchecked_disjoint parts c e is (inl bad) = tree_disjoint tree_depth parts c.tree e is.tree bad
unchecked_disjoint parts c e is (inr (n, has, many, _)) =
    let most : n ≤ node_count c.tree = nodes_most tree_depth parts c.tree n is.tree has in
    let few : node_count c.tree ≤ most_nodes = is.few in
    absurd (omega (arith, most, few, many))

unchecked_unique : (parts : List (List ℕ)) (c d : CelChecked) → IsUnchecked parts c → IsUnchecked parts d → c ≡ d
unchecked_unique parts c d a b =
    let tree : c.tree ≡ d.tree = tree_unique tree_depth parts c.tree d.tree a.tree b.tree in
    let types : c.types ≡ d.types = a.types ∙ sym b.types in
    let refs : c.refs ≡ d.refs = a.refs ∙ sym b.refs in
    λ i. record { tree = tree i; types = types i; refs = refs i }

-- ---- both

pub expr_total : (parts : ExprParts) → ((c : CelChecked) × IsExprOf parts c) ⊎ ((e : Refusal) × ExprFault parts e)
expr_total (checked_parts parts) = checked_total parts
expr_total (unchecked_parts parts) = unchecked_total parts

pub expr_disjoint : (parts : ExprParts) (c : CelChecked) (e : Refusal) → IsExprOf parts c → ExprFault parts e → ⊥
expr_disjoint (checked_parts parts) = checked_disjoint parts
expr_disjoint (unchecked_parts parts) = unchecked_disjoint parts

pub expr_unique : (parts : ExprParts) (c d : CelChecked) → IsExprOf parts c → IsExprOf parts d → c ≡ d
expr_unique (checked_parts parts) = checked_unique parts
expr_unique (unchecked_parts parts) = unchecked_unique parts

-- no payloads are an expression
no_tree : (depth : ℕ) (t : CelTree) → IsTree depth [] t → ⊥
no_tree zero t is = is
no_tree (suc depth) t is =
    let none : is.is.0 ≡ [] = is.is.1.0 in
    subst (λ fs. OneofSays node_kinds Never MemberSays fs is.node) none is.is.2.1

pub expr_given : (parts : ExprParts) (c : CelChecked) → IsExprOf parts c → ArePresent parts
expr_given (checked_parts parts) c (fs, message, says) = λ none.
    let empty_fields : fs ≡ [] = subst (λ ps. Merges ps fs) none message.0 in says.there (rw empty_fields refl)
expr_given (unchecked_parts parts) c is = λ none.
    no_tree tree_depth c.tree (subst (λ ps. IsTree tree_depth ps c.tree) none is.tree)

pub given_or_not : (parts : ExprParts) → ArePresent parts ⊎ (ArePresent parts → ⊥)
given_or_not (checked_parts parts) = elim (nil_or_not parts) [
  | inl none ↦ inr (λ some. some none)
  | inr some ↦ inl some
]
given_or_not (unchecked_parts parts) = elim (nil_or_not parts) [
  | inl none ↦ inr (λ some. some none)
  | inr some ↦ inl some
]
