-- The expressions that stand in a node's message are those inside the node, where the message is one.
use Rattle.std.proofs.Common.{◌≡◌, ◌≢◌, ◌<◌, ◌⊎◌, ◌++◌, inl, inr, ℕ, ℤ, List, [], ◌∷◌, Contains, arith, refl, sym, subst, ◌∙◌}
use Rattle.std.specs.List.{AllZip}
use Rattle.proto_wire.specs.Fields.{Wire}
use Rattle.proto_wire.specs.Merge.{Merges}
use Rattle.proto_wire.specs.Values.{payloads}
use Rattle.proto_wire.proofs.Unique.{merges_unique}
use Rattle.cel_tree.specs.Nodes.{Parts, EntryNode, Node, singles, if_there, entry_children, children, loop_at, loop_children, IsMapEntry, node_kinds, KindSays, MemberSays, InEntry, InKind, IsChild, IsNode, select_field, call_field, list_field, struct_field, loop_field}
use Rattle.proto_wire.specs.Reading.{Never}
use Rattle.cel_tree.specs.declared.kinds.NodeKind.{NodeKind}
use Rattle.cel_tree.specs.declared.kinds.NodeKind.TheVariants as kinds
use Rattle.cel_read.proofs.Basics.{contains_first, contains_later, contains_cases}
use Rattle.proto_wire.proofs.Standing.{stands, stood}

-- nothing is in no list
none_in : {A : Type 0} (x : A) → Contains [] x → ⊥
none_in x here = let lt : here.0 < 0 = here.1 in omega arith

-- ---- messages of one payload each

in_singles : (ps : List (List ℕ)) (child : Parts) → Contains (singles ps) child
    → (p : List ℕ) × Contains ps p × (child ≡ p ∷ [])
in_singles [] child here = absurd (none_in child here)
in_singles (p ∷ ps) child here = elim (contains_cases (p ∷ []) child (singles ps) here) [
  | inl same ↦ (p, contains_first p ps, sym same)
  | inr later ↦
      let found = in_singles ps child later in
      (found.0, contains_later p found.0 ps found.1, found.2)
]

of_singles : (ps : List (List ℕ)) (p : List ℕ) → Contains ps p → Contains (singles ps) (p ∷ [])
of_singles [] p here = absurd (none_in p here)
of_singles (q ∷ ps) p here = elim (contains_cases q p ps here) [
  | inl same ↦
      let P : List ℕ → Type 0 = λ x. Contains (singles (q ∷ ps)) (x ∷ []) in
      subst P same (contains_first (q ∷ []) (singles ps))
  | inr later ↦ contains_later (q ∷ []) (p ∷ []) (singles ps) (of_singles ps p later)
]

-- ---- a target and arguments

in_call : (on : Parts) (ps : List (List ℕ)) (child : Parts) → Contains (if_there on ++ singles ps) child
    → ((on ≢ []) × (child ≡ on)) ⊎ ((p : List ℕ) × Contains ps p × (child ≡ p ∷ []))
in_call [] ps child here = inr (in_singles ps child here)
in_call (q ∷ qs) ps child here = elim (contains_cases (q ∷ qs) child (singles ps) here) [
  | inl same ↦ inl (λ e. cc, sym same)
  | inr later ↦ inr (in_singles ps child later)
]

of_target : (on : Parts) (ps : List (List ℕ)) → on ≢ [] → Contains (if_there on ++ singles ps) on
of_target [] ps some = absurd (some refl)
of_target (q ∷ qs) ps some = contains_first (q ∷ qs) (singles ps)

of_arg : (on : Parts) (ps : List (List ℕ)) (p : List ℕ) → Contains ps p
    → Contains (if_there on ++ singles ps) (p ∷ [])
of_arg [] ps p here = of_singles ps p here
of_arg (q ∷ qs) ps p here = contains_later (q ∷ qs) (p ∷ []) (singles ps) (of_singles ps p here)

-- ---- entries

in_entries : (ps : List (List ℕ)) (es : List EntryNode) (child : Parts) → AllZip IsMapEntry ps es
    → Contains (entry_children es) child
    → (entry : List ℕ) × (own : List Wire) × Contains ps entry × Merges (entry ∷ []) own × InEntry own child
in_entries [] [] child are here = absurd (none_in child here)
in_entries [] (x ∷ es) child are here = absurd are
in_entries (p ∷ ps) [] child are here = absurd are
in_entries (p ∷ ps) (x ∷ es) child ((fs, message, says), are) here =
    elim (contains_cases x.key child (x.value ∷ entry_children es) here) [
      | inl same ↦ (p, fs, contains_first p ps, message.0, inl (says.keyed, sym same ∙ says.key))
      | inr value ↦ elim (contains_cases x.value child (entry_children es) value) [
        | inl same ↦ (p, fs, contains_first p ps, message.0, inr (says.there, sym same ∙ says.value))
        | inr later ↦
            let found = in_entries ps es child are later in
            (found.0, found.1, contains_later p found.0 ps found.2, found.3, found.4)
      ]
    ]

of_entry : (p : List ℕ) (x : EntryNode) (es : List EntryNode) (own : List Wire) (child : Parts) → IsMapEntry p x
    → Merges (p ∷ []) own → InEntry own child → Contains (entry_children (x ∷ es)) child
of_entry p x es own child (fs, message, says) merges inside =
    let P : List Wire → Type 0 = λ gs. InEntry gs child in
    elim (subst P (merges_unique (p ∷ []) own fs merges message.0) inside) [
      | inl (keyed, is) ↦
          let same : child ≡ x.key = is ∙ sym says.key in
          rw same (contains_first x.key (x.value ∷ entry_children es))
      | inr (there, is) ↦
          let same : child ≡ x.value = is ∙ sym says.value in
          rw same (contains_later x.key x.value (x.value ∷ entry_children es) (contains_first x.value (entry_children es)))
    ]

of_entries : (ps : List (List ℕ)) (es : List EntryNode) (entry : List ℕ) (own : List Wire) (child : Parts)
    → AllZip IsMapEntry ps es → Contains ps entry → Merges (entry ∷ []) own → InEntry own child
    → Contains (entry_children es) child
of_entries [] es entry own child are here merges inside = absurd (none_in entry here)
of_entries (p ∷ ps) [] entry own child are here merges inside = absurd are
of_entries (p ∷ ps) (x ∷ es) entry own child are here merges inside = elim (contains_cases p entry ps here) [
  | inl same ↦
      let P : List ℕ → Type 0 = λ q. Merges (q ∷ []) own in
      of_entry p x es own child are.0 (subst P (sym same) merges) inside
  | inr later ↦ contains_later x.key child (x.value ∷ entry_children es)
      (contains_later x.value child (entry_children es) (of_entries ps es entry own child are.1 later merges inside))
]

-- ---- all kinds

-- an expression inside stands in the message
in_kind : (kind : NodeKind) (parts : Parts) (node : Node) (child : Parts) → KindSays kind parts node
    → Contains (children node) child → (own : List Wire) × Merges parts own × InKind kind own child
in_kind kinds.Constant parts node child (v, is, same) here = absurd (none_in child (rw same at here))
in_kind kinds.Ident parts node child (fs, message, (utf8, same)) here = absurd (none_in child (rw same at here))
in_kind kinds.Select parts node child (fs, message, (utf8, there, same)) here =
    elim (contains_cases (payloads select_field.operand fs) child [] (rw same at here)) [
      | inl is ↦ (fs, message.0, (there, sym is))
      | inr none ↦ absurd (none_in child none)
    ]
in_kind kinds.Call parts node child (fs, message, (utf8, same)) here =
    (fs, message.0, in_call (payloads call_field.target fs) (payloads call_field.args fs) child (rw same at here))
in_kind kinds.List parts node child (fs, message, (plain, same)) here =
    (fs, message.0, in_singles (payloads list_field.elements fs) child (rw same at here))
in_kind kinds.Struct parts node child (fs, message, (plain, es, are, same)) here =
    (fs, message.0, in_entries (payloads struct_field.entries fs) es child are (rw same at here))
in_kind kinds.Comprehension parts node child (fs, message, (names, there, same)) here =
    let all : Contains (loop_children (loop_at fs)) child = rw same at here in (
      fs,
      message.0,
      elim (contains_cases (payloads loop_field.iter_range fs) child (payloads loop_field.accu_init fs ∷ payloads loop_field.loop_condition fs ∷ payloads loop_field.loop_step fs ∷ payloads loop_field.result fs ∷ []) all) [
        | inl is ↦ inl (there.0, sym is)
        | inr a ↦ inr (elim (contains_cases (payloads loop_field.accu_init fs) child (payloads loop_field.loop_condition fs ∷ payloads loop_field.loop_step fs ∷ payloads loop_field.result fs ∷ []) a) [
          | inl is ↦ inl (there.1.0, sym is)
          | inr b ↦ inr (elim (contains_cases (payloads loop_field.loop_condition fs) child (payloads loop_field.loop_step fs ∷ payloads loop_field.result fs ∷ []) b) [
            | inl is ↦ inl (there.1.1.0, sym is)
            | inr d ↦ inr (elim (contains_cases (payloads loop_field.loop_step fs) child (payloads loop_field.result fs ∷ []) d) [
              | inl is ↦ inl (there.1.1.1.0, sym is)
              | inr e ↦ inr (elim (contains_cases (payloads loop_field.result fs) child [] e) [
                | inl is ↦ inl (there.1.1.1.1.0, sym is)
                | inr none ↦ absurd (none_in child none)
              ])
            ])
          ])
        ])
      ],
    )

-- a part of a comprehension's message is inside it
of_loop : (fs : List Wire) (child : Parts) → InKind kinds.Comprehension fs child
    → Contains (loop_children (loop_at fs)) child
of_loop fs child parts =
    let a : Parts = payloads loop_field.iter_range fs in
    let b : Parts = payloads loop_field.accu_init fs in
    let c : Parts = payloads loop_field.loop_condition fs in
    let d : Parts = payloads loop_field.loop_step fs in
    let e : Parts = payloads loop_field.result fs in
    elim parts [
      | inl (there, is) ↦ rw is (contains_first a (b ∷ c ∷ d ∷ e ∷ []))
      | inr (inl (there, is)) ↦ rw is (contains_later a b (b ∷ c ∷ d ∷ e ∷ []) (contains_first b (c ∷ d ∷ e ∷ [])))
      | inr (inr (inl (there, is))) ↦ rw is (contains_later a c (b ∷ c ∷ d ∷ e ∷ []) (contains_later b c (c ∷ d ∷ e ∷ [])
          (contains_first c (d ∷ e ∷ []))))
      | inr (inr (inr (inl (there, is)))) ↦ rw is (contains_later a d (b ∷ c ∷ d ∷ e ∷ [])
          (contains_later b d (c ∷ d ∷ e ∷ []) (contains_later c d (d ∷ e ∷ []) (contains_first d (e ∷ [])))))
      | inr (inr (inr (inr (inl (there, is))))) ↦ rw is (contains_later a e (b ∷ c ∷ d ∷ e ∷ [])
          (contains_later b e (c ∷ d ∷ e ∷ []) (contains_later c e (d ∷ e ∷ []) (contains_later d e (e ∷ [])
          (contains_first e [])))))
      | inr (inr (inr (inr (inr none)))) ↦ absurd none
    ]

-- an expression that stands in the message is inside, by the fields that it says the node by
of_kind : (kind : NodeKind) (parts : Parts) (node : Node) (own : List Wire) (child : Parts) → KindSays kind parts node
    → Merges parts own → InKind kind own child → Contains (children node) child
of_kind kinds.Constant parts node own child says merges inside = absurd inside
of_kind kinds.Ident parts node own child says merges inside = absurd inside
of_kind kinds.Select parts node own child (fs, message, (utf8, there, same)) merges inside =
    let P : List Wire → Type 0 = λ gs. InKind kinds.Select gs child in
    let here : InKind kinds.Select fs child = subst P (merges_unique parts own fs merges message.0) inside in
    rw (same, here.1) (contains_first (payloads select_field.operand fs) [])
of_kind kinds.Call parts node own child (fs, message, (utf8, same)) merges inside =
    let P : List Wire → Type 0 = λ gs. InKind kinds.Call gs child in
    elim (subst P (merges_unique parts own fs merges message.0) inside) [
      | inl (some, is) ↦ rw (same, is) (of_target (payloads call_field.target fs) (payloads call_field.args fs) some)
      | inr (p, here, is) ↦ rw (same, is) (of_arg (payloads call_field.target fs) (payloads call_field.args fs) p here)
    ]
of_kind kinds.List parts node own child (fs, message, (plain, same)) merges inside =
    let P : List Wire → Type 0 = λ gs. InKind kinds.List gs child in
    let here : InKind kinds.List fs child = subst P (merges_unique parts own fs merges message.0) inside in
    rw (same, here.2) (of_singles (payloads list_field.elements fs) here.0 here.1)
of_kind kinds.Struct parts node own child (fs, message, (plain, es, are, same)) merges inside =
    let P : List Wire → Type 0 = λ gs. InKind kinds.Struct gs child in
    let here : InKind kinds.Struct fs child = subst P (merges_unique parts own fs merges message.0) inside in
    rw same (of_entries (payloads struct_field.entries fs) es here.0 here.1 child are here.2 here.3 here.4)
of_kind kinds.Comprehension parts node own child (fs, message, (names, there, same)) merges inside =
    let P : List Wire → Type 0 = λ gs. InKind kinds.Comprehension gs child in
    rw same (of_loop fs child (subst P (merges_unique parts own fs merges message.0) inside))

-- ---- nodes

pub child_stands : (parts : Parts) (id : ℤ) (node : Node) (child : Parts) → IsNode parts id node
    → Contains (children node) child → IsChild parts child
child_stands parts id node child (fs, message, (same, says)) here =
    stands node_kinds Never MemberSays InKind parts child fs message.0 node says (Contains (children node) child)
    (λ never. never) (λ m n run own. in_kind m (payloads n run) node child own here)

pub child_inside : (parts : Parts) (id : ℤ) (node : Node) (child : Parts) → IsNode parts id node → IsChild parts child
    → Contains (children node) child
child_inside parts id node child (fs, message, (same, says)) is =
    stood node_kinds Never MemberSays InKind parts child fs message.0 node says (Contains (children node) child)
    (λ m n run own said merges inside. of_kind m (payloads n run) node own child said merges inside) is
