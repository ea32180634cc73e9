-- The bytes of a filter are its message or have a fault, and never both.
use Rattle.std.proofs.Common.{◌≡◌, ◌≢◌, ℕ, ◌<◌, ◌≤◌, ◌⊎◌, inl, inr, T, List, [], ◌∷◌, length, Contains, Option, Some, None, MatchOption, IsSomeAnd, refl, sym, ap, subst, arith, ◌∙◌}
use Rattle.std.proofs.lemmas.Bool.{cases_lt}
use Rattle.std.specs.FinMap.{FinMap, from_entries, len, len-entries, entries, entries_sorted, get, get-entries}
use Rattle.std.specs.Cmp.Lexicographic.{nat_list_cmp_total}
use Rattle.proto_wire.proofs.MapOrder.{entries_from_entries}
use Rattle.attributes.specs.Headers.{name_cmp}
use Rattle.attributes.specs.Limits.{LimitsValue}
use Rattle.proto_wire.specs.Fields.{Wire}
use Rattle.proto_wire.specs.Values.{payloads}
use Rattle.proto_wire.specs.Merge.{Merges}
use Rattle.proto_wire.specs.Messages.{IsMessage, MessageFault}
use Rattle.proto_wire.proofs.Unique.{merges_unique}
use Rattle.proto_wire.proofs.Messages.{message_total, message_disjoint}
use Rattle.proto_wire.specs.declared.refusal.Refusal.{Refusal}
use Rattle.proto_wire.specs.declared.refusal.Refusal.TheVariants.{BothConditions, Missing, NotBool, OutOfRange, TooCostly, TooLarge, Unsupported}
use Rattle.cel_value.specs.Types.{ValueType, bool_type, bytes_type, int_type, list_type, map_type, text_type, uint_type}
use Rattle.cel_tree.specs.Checked.{CelChecked}
use Rattle.cel_tree.specs.Message.{ExprFault, IsExprOf, ArePresent}
use Rattle.cel_read.proofs.CheckedLaws.{expr_disjoint, expr_given, expr_total, expr_unique, given_or_not}
use Rattle.cel_types.specs.Typing.{maps_of}
use Rattle.cel_types.specs.TypingFaults.{IsTyped}
use Rattle.cel_types.proofs.CheckLaws.{check_disjoint, check_total}
use Rattle.cel_types.proofs.Elaborating.{elaborated}
use Rattle.cel_types.proofs.OneType.{one_type}
use Rattle.cel_costs.specs.Costs.{cost_of}
use Rattle.cel_costs.specs.Visits.{visits_of}
use Rattle.cost_bound.specs.Budgets.{Covers}
use Rattle.cost_bound.specs.declared.budget.Budget.{Budget}
use Rattle.cel_compile.specs.Codes.{code_of}
use Rattle.rbac_match.specs.Rules.{IsRule, AreRules, RuleFault}
use Rattle.rbac_match.specs.Formula.{Formulas}
use Rattle.rbac_match.specs.declared.rule.Side.{Side}
use Rattle.rbac_match.specs.declared.rule.Side.TheVariants.{Permission, Principal}
use Rattle.rbac_match.proofs.Basics.{nil_or_not, same_or_not}
use Rattle.rbac_match.proofs.RuleMessages.{rules_total, rules_disjoint}
use Rattle.rbac_policy.specs.Admission.{Admissible, Fault, in_message, too_much}
use Rattle.rbac_policy.specs.Condition.{IsProgramOf, Program}
use Rattle.rbac_policy.specs.Enforced.{Enforces, EnforcesPolicy, policies_need, total_needs}
use Rattle.rbac_policy.specs.Filter.{Policy, Filter}
use Rattle.rbac_policy.specs.Keys.{rules_field, policy_field, filter_keys, policy_keys, filter_field, rules_keys}
use Rattle.rbac_policy.specs.Message.{rule_depth, most_policies, HasBothSides, IsCondition, IsPolicy, condition_in, action_in, action_number, AreFilterRules, IsFilter}
use Rattle.proto_wire.specs.Maps.{Entry, text, AreEntries, AreValues, Readable, map_of, in_entry, in_value}
use Rattle.proto_wire.proofs.MapLaws.{entries_total, entries_readable, readable_unique}
use Rattle.proto_wire.proofs.MapValues.{held_are_values, values_total}
use Rattle.proto_wire.proofs.WholeMaps.{map_disjoint}
use Rattle.rbac_policy.specs.Fault.{PolicyFault, PolicyHas, SomeCost, HoldsPolicies, policy_fields, lacks_side, both_conditions, unreadable, untyped, not_bool, in_permission, in_principal, RulesFault, bad_action, audited, in_policies, too_many, FilterFault, filter_fields, no_rules, rules_fields, in_rules}
use Rattle.rbac_policy.specs.declared.filter.Action.{Action}
use Rattle.rbac_policy.specs.declared.filter.Action.TheVariants.{Allow, Deny, Log}
use Rattle.rbac_policy.specs.private.Conditions.{IsEnforced}
use Rattle.rbac_policy.proofs.Besides.{Beside, beside_length, beside_map, in_a_row, sorted_beside}
use Rattle.rbac_policy.proofs.Enforcing.{all_cost, apart, cost_most, enforced_beside, enforced_costs, enforced_there, filter_enforced}

-- payloads are a policy or have a fault
ruled : (side : Side) (fs : List Wire) (k : ℕ)
    → ((gs : Formulas) × AreRules (IsRule side rule_depth) (payloads k fs) gs) ⊎ ((child : List ℕ) × Contains (payloads k fs) child × (e : Refusal) × RuleFault side rule_depth (child ∷ []) e)
ruled side fs k = rules_total side rule_depth (payloads k fs)

-- fields have both sides or not
sides_total : (fs : List Wire) → HasBothSides fs ⊎ ¬ (HasBothSides fs)
sides_total fs = elim (nil_or_not (payloads policy_field.permissions fs)) [
  | inl none ↦ inr (λ sides. sides.0 none)
  | inr permission ↦ elim (nil_or_not (payloads policy_field.principals fs)) [
    | inl none ↦ inr (λ sides. sides.1 none)
    | inr principal ↦ inl (permission, principal)
  ]
]

-- one of two lists is empty, or none is
one_or_both : (xs ys : List (List ℕ)) → ((xs ≡ []) ⊎ (ys ≡ [])) ⊎ ((xs ≢ []) × (ys ≢ []))
one_or_both xs ys = elim (nil_or_not xs) [
  | inl none ↦ inl (inl none)
  | inr some ↦ elim (nil_or_not ys) [
    | inl none ↦ inl (inr none)
    | inr also ↦ inr (some, also)
  ]
]

-- a type is bool or not
bool_or_not : (t : ValueType) → (t ≡ bool_type) ⊎ (t ≢ bool_type)
bool_or_not bool_type = inl refl
bool_or_not int_type = inr (λ e. cc)
bool_or_not uint_type = inr (λ e. cc)
bool_or_not text_type = inr (λ e. cc)
bool_or_not bytes_type = inr (λ e. cc)
bool_or_not (list_type s) = inr (λ e. cc)
bool_or_not (map_type k s) = inr (λ e. cc)

module _ (limits : LimitsValue) where
  -- a condition of type bool has a program
  program_there : (c : CelChecked) → IsTyped c bool_type → (program : Program) × IsProgramOf limits c program
  program_there c typed =
      let e = elaborated (maps_of c) [] c.tree bool_type typed.types in (
        record { code = code_of 0 0 e.0; bound = cost_of e.0 limits []; visits = visits_of e.0 limits [] },
        record {
          e = e.0;
          elaborated = record { typed = subst (λ u. IsTyped c u) (sym e.2) typed; elaborates = e.1 };
          has_type = e.2;
          code = refl;
          bound = refl;
          visits = refl;
        },
      )

  -- the condition in the payloads has a program, or has a fault, or there is none
  condition_total : (parts : List (List ℕ)) (fs : List Wire) → Merges parts fs
      → ((condition : Option CelChecked) × (program : Option Program) × IsCondition (condition_in fs) condition
      × MatchOption condition (program ≡ None) (λ c. IsSomeAnd program (IsProgramOf limits c)))
      ⊎ ((e : Refusal) × PolicyFault parts e)
  condition_total parts fs merges = elim (given_or_not (condition_in fs)) [
    | inr none ↦ inl (None, None, none, refl)
    | inl there ↦ elim (expr_total (condition_in fs)) [
      | inr bad ↦ inr (bad.0, unreadable fs merges there bad.1)
      | inl reads ↦
          let has : PolicyHas parts reads.0 = record { fs = fs; merges = merges; reads = reads.1 } in
          elim (check_total reads.0) [
            | inr bad ↦ inr (bad.0, untyped reads.0 has bad.1)
            | inl typed ↦ elim (bool_or_not typed.0) [
              | inr other ↦ inr (NotBool, not_bool reads.0 typed.0 has typed.1 other refl)
              | inl is ↦
                  let program = program_there reads.0 (subst (IsTyped reads.0) is typed.1) in
                  inl (Some reads.0, Some program.0, (there, reads.1), program.1)
            ]
          ]
    ]
  ]

  fields_total : (parts : List (List ℕ)) (fs : List Wire) → IsMessage policy_keys parts fs
      → (payloads policy_field.condition fs ≡ []) ⊎ (payloads policy_field.checked_condition fs ≡ []) → HasBothSides fs
      → ((enforced : Policy Program) × IsEnforced limits parts enforced) ⊎ ((e : Refusal) × PolicyFault parts e)
  fields_total parts fs message plain sides = elim (ruled Permission fs policy_field.permissions) [
    | inr bad ↦ inr (bad.2, in_permission fs message.0 (bad.0, bad.1, bad.3))
    | inl permissions ↦ elim (ruled Principal fs policy_field.principals) [
      | inr bad ↦ inr (bad.2, in_principal fs message.0 (bad.0, bad.1, bad.3))
      | inl principals ↦ elim (condition_total parts fs message.0) [
        | inr bad ↦ inr bad
        | inl (condition, program, reads, is) ↦ inl (
          record { permissions = permissions.0; principals = principals.0; condition = program },
          (
            record { permissions = permissions.0; principals = principals.0; condition = condition },
            record {
              fs = fs;
              message = message;
              one = plain;
              condition = reads;
              sides = sides;
              permissions = permissions.1;
              principals = principals.1;
            },
            record { permissions = refl; principals = refl; condition = is },
          ),
        )
      ]
    ]
  ]

  policy_total : (parts : List (List ℕ))
      → ((enforced : Policy Program) × IsEnforced limits parts enforced) ⊎ ((e : Refusal) × PolicyFault parts e)
  policy_total parts = elim (message_total policy_keys parts) [
    | inr bad ↦ inr (bad.0, policy_fields bad.1)
    | inl message ↦ elim (one_or_both (payloads policy_field.condition message.0) (payloads policy_field.checked_condition message.0)) [
      | inr both ↦ inr (BothConditions, both_conditions message.0 message.1.0 both.0 both.1 refl)
      | inl plain ↦ elim (sides_total message.0) [
        | inr bad ↦ inr (Missing, lacks_side message.0 message.1 bad refl)
        | inl sides ↦ fields_total parts message.0 message.1 plain sides
      ]
    ]
  ]

  -- not both
  module _ (parts : List (List ℕ)) (enforced : Policy Program) (whole : IsEnforced limits parts enforced) where
    abbrev policy : Policy CelChecked
    policy = whole.0

    abbrev is : IsPolicy parts policy
    is = whole.1

    -- the parts merge to the policy's fields alone
    moved : (P : List Wire → Type 0) (gs : List Wire) → Merges parts gs → P gs → P is.fs
    moved P gs also h = subst P (merges_unique parts gs is.fs also is.message.0) h

    -- a condition that the parts have is of type bool
    has_bool : (c : CelChecked) → PolicyHas parts c → IsTyped c bool_type
    has_bool c has =
        by (moved (λ fs. IsExprOf (condition_in fs) c) has.fs has.merges has.reads)
        policy.condition enforced.condition is.condition whole.2.condition
      where
        by : IsExprOf (condition_in is.fs) c → (d : Option CelChecked) (x : Option Program)
            → IsCondition (condition_in is.fs) d
            → MatchOption d (x ≡ None) (λ e. IsSomeAnd x (IsProgramOf limits e)) → IsTyped c bool_type
        by reads None x none h = absurd (none (expr_given (condition_in is.fs) c reads))
        by reads (Some d) None there h = absurd h
        by reads (Some d) (Some x) there h =
            let same : d ≡ c = expr_unique (condition_in is.fs) d c there.1 reads in
            subst (λ e. IsTyped e bool_type) same (subst (IsTyped d) h.has_type h.elaborated.typed)

    policy_disjoint : (e : Refusal) → PolicyFault parts e → ⊥
    policy_disjoint e (policy_fields bad) = message_disjoint policy_keys parts is.fs e is.message bad
    policy_disjoint e (lacks_side gs also bad at) = moved (λ xs. ¬ (HasBothSides xs)) gs also.0 bad is.sides
    policy_disjoint e (both_conditions gs also there checked at) = elim is.one [
      | inl none ↦ moved (λ xs. payloads policy_field.condition xs ≢ []) gs also there none
      | inr none ↦ moved (λ xs. payloads policy_field.checked_condition xs ≢ []) gs also checked none
    ]
    policy_disjoint e (unreadable gs also there bad) =
        reads policy.condition is.condition (moved (λ xs. ArePresent (condition_in xs)) gs also there) (moved (λ xs. ExprFault (condition_in xs) e) gs also bad)
      where
        reads : (d : Option CelChecked) → IsCondition (condition_in is.fs) d
            → ArePresent (condition_in is.fs) → ExprFault (condition_in is.fs) e → ⊥
        reads None none some fault = none some
        reads (Some d) has some fault = expr_disjoint (condition_in is.fs) d e has.1 fault
    policy_disjoint e (untyped c has bad) = check_disjoint c bool_type e (has_bool c has) bad
    policy_disjoint e (not_bool c t has typed other at) =
        other (one_type (maps_of c) [] c.tree t bool_type typed.types (has_bool c has).types)
    policy_disjoint e (in_permission gs also (child, here, bad)) =
        rules_disjoint Permission rule_depth (payloads policy_field.permissions is.fs) policy.permissions child e is.permissions (moved (λ xs. Contains (payloads policy_field.permissions xs) child) gs also here) bad
    policy_disjoint e (in_principal gs also (child, here, bad)) =
        rules_disjoint Principal rule_depth (payloads policy_field.principals is.fs) policy.principals child e is.principals (moved (λ xs. Contains (payloads policy_field.principals xs) child) gs also here) bad

-- the values of payloads by name are as many as these
pub as_many : (named : FinMap name_cmp (List (List ℕ))) (values : FinMap name_cmp (Policy CelChecked))
    → AreValues text IsPolicy named values → len values ≡ len named
as_many named values are =
    let it = beside_map IsPolicy values (entries named) (entries_sorted named) (λ name. rw (← get-entries named name) (are name)) in
    let order = subst T (sorted_beside IsPolicy (entries named) it.0 it.1) (entries_sorted named) in
    ap (len {R = name_cmp}) it.2 ∙ len-entries (from_entries it.0) ∙ ap length (entries_from_entries name_cmp nat_list_cmp_total it.0 order)
    ∙ sym (beside_length IsPolicy (entries named) it.0 it.1) ∙ sym (len-entries named)

-- the number of an action is one of three, or too great
action_total : (n : ℕ) → ((action : Action) × (n ≡ action_number action)) ⊎ (2 < n)
action_total n = elim (same_or_not n 0) [
  | inl is ↦ inl (Allow, is)
  | inr not_0 ↦ elim (same_or_not n 1) [
    | inl is ↦ inl (Deny, is)
    | inr not_1 ↦ elim (same_or_not n 2) [
      | inl is ↦ inl (Log, is)
      | inr not_2 ↦ inr (omega arith)
    ]
  ]
]

action_small : (n : ℕ) (action : Action) → n ≡ action_number action → 2 < n → ⊥
action_small n Allow is large = absurd (omega arith)
action_small n Deny is large = absurd (omega arith)
action_small n Log is large = absurd (omega arith)

module _ (limits : LimitsValue) where
  -- the fields of the rules are the filter's or have a fault
  abbrev FilterOf : (Filter CelChecked → Type 0) → Type 0
  FilterOf Is = (filter : Filter CelChecked) × (enforced : Filter Program) × Is filter × Enforces limits filter enforced

  entries_done : (fs : List Wire) (action : Action) → payloads rules_field.audit_logging_options fs ≡ []
      → action_in fs ≡ action_number action → (es : List (Entry text)) → AreEntries text (payloads rules_field.policies fs) es
      → FilterOf (AreFilterRules fs) ⊎ ((e : Refusal) × RulesFault fs e)
  entries_done fs action unaudited is es are = elim (cases_lt most_policies (len (map_of text es))) [
    | inl many ↦ inr (TooLarge, too_many es (entries_readable text (payloads rules_field.policies fs) es are) many refl)
    | inr few ↦ elim (values_total text (IsEnforced limits) PolicyFault (policy_total limits) (map_of text es)) [
      | inr bad ↦ inr (bad.0, in_policies (in_value es (entries_readable text (payloads rules_field.policies fs) es are) bad.1))
      | inl held ↦
          let named : FinMap name_cmp (List (List ℕ)) = map_of text es in
          let listed = beside_map (IsEnforced limits) held.0 (entries named) (entries_sorted named) (λ name. rw (← get-entries named name) (held.1 name)) in
          let split = apart limits (entries named) listed.0 listed.1 in
          let values = held_are_values text IsPolicy named split.0 split.1 in
          let same = as_many named (from_entries split.0) values in inl (
            record { action = action; policies = from_entries split.0 },
            record { action = action; policies = from_entries listed.0 },
            record { unaudited = unaudited; action = is; policies = (es, are, values); few = omega (arith, same, few) },
            filter_enforced limits action split.0 listed.0 split.2,
          )
    ]
  ]

  rules_fields_total : (fs : List Wire) → FilterOf (AreFilterRules fs) ⊎ ((e : Refusal) × RulesFault fs e)
  rules_fields_total fs = elim (nil_or_not (payloads rules_field.audit_logging_options fs)) [
    | inr there ↦ inr (Unsupported, audited there refl)
    | inl unaudited ↦ elim (action_total (action_in fs)) [
      | inr large ↦ inr (OutOfRange, bad_action large refl)
      | inl action ↦ elim (entries_total text (payloads rules_field.policies fs)) [
        | inr bad ↦ inr (bad.0, in_policies (in_entry bad.1))
        | inl read ↦ entries_done fs action.0 unaudited action.1 read.0 read.1
      ]
    ]
  ]

  -- bytes are the message of a filter of which something is enforced, or have a fault
  filter_total : (bytes : List ℕ) → FilterOf (IsFilter bytes) ⊎ ((e : Refusal) × FilterFault bytes e)
  filter_total bytes = elim (message_total filter_keys (bytes ∷ [])) [
    | inr bad ↦ inr (bad.0, filter_fields bad.1)
    | inl top ↦ elim (nil_or_not (payloads filter_field.rules top.0)) [
      | inl none ↦ inr (Missing, no_rules top.0 top.1 none refl)
      | inr there ↦ elim (message_total rules_keys (payloads filter_field.rules top.0)) [
        | inr bad ↦ inr (bad.0, rules_fields top.0 top.1.0 there bad.1)
        | inl inner ↦ elim (rules_fields_total inner.0) [
          | inr bad ↦ inr (bad.0, in_rules top.0 inner.0 top.1.0 there inner.1.0 bad.1)
          | inl rules ↦ inl (rules.0, rules.1, record { top = top.0; fs = inner.0; message = top.1; there = there; inner = inner.1; rules = rules.2 }, rules.3)
        ]
      ]
    ]
  ]

  -- what is enforced of a filter stands beside the payloads of its policies
  listed_in : (bytes : List ℕ) (filter : Filter CelChecked) (enforced : Filter Program) (is : IsFilter bytes filter)
      → Enforces limits filter enforced
      → (vs : List (List ℕ × Policy Program)) × Beside (IsEnforced limits) (entries (map_of text is.rules.policies.0)) vs
      × (total_needs enforced ≡ policies_need vs)
  listed_in bytes filter enforced is enforces =
      enforced_beside limits (map_of text is.rules.policies.0) filter enforced is.rules.policies.2 enforces

  -- the policies of a filter's message take what its conditions take
  costs_there : (bytes : List ℕ) (filter : Filter CelChecked) (enforced : Filter Program) (is : IsFilter bytes filter)
      → Enforces limits filter enforced
      → (ns : List (Entry text)) × HoldsPolicies bytes ns × SomeCost limits ns (total_needs enforced)
  costs_there bytes filter enforced is enforces =
      let listed = listed_in bytes filter enforced is enforces in
      let ns : List (Entry text) = entries (map_of text is.rules.policies.0) in (
        ns,
        record {
          top = is.top;
          fs = is.fs;
          read = is.rules.policies.0;
          outer = is.message.0;
          inner = is.inner.0;
          readable = entries_readable text (payloads rules_field.policies is.fs) is.rules.policies.0 is.rules.policies.1;
          named = refl;
        },
        rw (listed.2) (all_cost limits ns listed.0 listed.1),
      )

  -- bytes are admissible or have a fault
  pub bytes_total : (bytes : List ℕ) (budget : Budget)
      → Admissible bytes limits budget ⊎ ((e : Refusal) × Fault e bytes limits budget)
  bytes_total bytes budget = elim (filter_total bytes) [
    | inr bad ↦ inr (bad.0, in_message bad.1)
    | inl (filter, enforced, is, enforces) ↦
        let there = costs_there bytes filter enforced is enforces in
        elim (cases_lt budget.steps (total_needs enforced).steps) [
          | inl more ↦ inr (TooCostly, too_much there.0 (total_needs enforced) there.1 there.2 (inl (refl, more)))
          | inr cheap ↦ elim (cases_lt budget.visits (total_needs enforced).visits) [
            | inl more ↦ inr (TooLarge, too_much there.0 (total_needs enforced) there.1 there.2 (inr (refl, more)))
            | inr few ↦ inl (
              filter,
              record {
                message = is;
                needs = total_needs enforced;
                costs = enforced_costs limits filter enforced enforces;
                covered = (cheap, few);
              },
            )
          ]
        ]
  ]

  -- the rules of a filter have no fault
  rules_fields_disjoint : (fs : List Wire) (filter : Filter CelChecked) (enforced : Filter Program) (e : Refusal)
      → AreFilterRules fs filter → Enforces limits filter enforced → RulesFault fs e → ⊥
  rules_fields_disjoint fs filter enforced e is enforces (bad_action large at) = action_small (action_in fs) filter.action is.action large
  rules_fields_disjoint fs filter enforced e is enforces (audited there at) = there is.unaudited
  rules_fields_disjoint fs filter enforced e is enforces (too_many es reads many at) =
      let few : len filter.policies ≤ most_policies = is.few in
      let same = as_many (map_of text is.policies.0) filter.policies is.policies.2 in
      let P : List (Entry text) → Type 0 = λ xs. most_policies < len (map_of text xs) in
      let more : most_policies < len (map_of text is.policies.0) =
      subst P (readable_unique text (payloads rules_field.policies fs) is.policies.0 es is.policies.1 reads) many in absurd (omega (arith, same, few, more))
  rules_fields_disjoint fs filter enforced e is enforces (in_policies bad) =
      let named : FinMap name_cmp (List (List ℕ)) = map_of text is.policies.0 in
      let are : AreValues text (IsEnforced limits) named enforced.policies = (λ name.
      in_a_row IsPolicy (EnforcesPolicy limits) (IsEnforced limits) (λ parts p v policy enf. (p, policy, enf))
      (get named name) (get filter.policies name) (get enforced.policies name) (is.policies.2 name) (enforces.policies name)) in
      map_disjoint text (IsEnforced limits) PolicyFault (λ parts v d held fault. policy_disjoint limits parts v held d fault) (payloads rules_field.policies fs) enforced.policies e
      (is.policies.0, is.policies.1, are) bad

  -- the message of a filter has no fault
  filter_disjoint : (bytes : List ℕ) (filter : Filter CelChecked) (enforced : Filter Program) (e : Refusal)
      → IsFilter bytes filter → Enforces limits filter enforced → FilterFault bytes e → ⊥
  filter_disjoint bytes filter enforced e is enforces (filter_fields bad) = message_disjoint filter_keys (bytes ∷ []) is.top e is.message bad
  filter_disjoint bytes filter enforced e is enforces (no_rules gs also none at) =
      is.there (let P : List Wire → Type 0 = λ xs. payloads filter_field.rules xs ≡ [] in subst P (merges_unique (bytes ∷ []) gs is.top also.0 is.message.0) none)
  filter_disjoint bytes filter enforced e is enforces (rules_fields gs also there bad) =
      let P : List Wire → Type 0 = λ xs. MessageFault rules_keys (payloads filter_field.rules xs) e in
      message_disjoint rules_keys (payloads filter_field.rules is.top) is.fs e is.inner (subst P (merges_unique (bytes ∷ []) gs is.top also is.message.0) bad)
  filter_disjoint bytes filter enforced e is enforces (in_rules gs hs also there merges bad) =
      let P : List Wire → Type 0 = λ xs. Merges (payloads filter_field.rules xs) hs in
      let same : hs ≡ is.fs = merges_unique (payloads filter_field.rules is.top) hs is.fs (subst P (merges_unique (bytes ∷ []) gs is.top also is.message.0) merges) is.inner.0 in
      let Q : List Wire → Type 0 = λ xs. RulesFault xs e in
      rules_fields_disjoint is.fs filter enforced e is.rules enforces (subst Q same bad)

  -- the policies of a filter's message are those alone
  policies_are : (bytes : List ℕ) (filter : Filter CelChecked) (is : IsFilter bytes filter) (policies : List (Entry text))
      → HoldsPolicies bytes policies → policies ≡ entries (map_of text is.rules.policies.0)
  policies_are bytes filter is policies holds =
      let P : List Wire → Type 0 = λ xs. Merges (payloads filter_field.rules xs) holds.fs in
      let same : holds.fs ≡ is.fs = merges_unique (payloads filter_field.rules is.top) holds.fs is.fs (subst P (merges_unique (bytes ∷ []) holds.top is.top holds.outer is.message.0) holds.inner) is.inner.0 in
      let Q : List Wire → Type 0 = λ xs. Readable text (payloads rules_field.policies xs) holds.read in
      holds.named ∙ ap (λ es. entries (map_of text es)) (readable_unique text (payloads rules_field.policies is.fs) is.rules.policies.0 holds.read is.rules.policies.1 (subst Q same holds.readable))

  -- admissible bytes have no fault
  pub bytes_disjoint : (e : Refusal) (bytes : List ℕ) (budget : Budget) → Admissible bytes limits budget
      → Fault e bytes limits budget → ⊥
  bytes_disjoint e bytes budget (filter, is) (in_message bad) =
      let there = enforced_there limits filter is.needs is.costs in
      filter_disjoint bytes filter there.0 e is.message there.1 bad
  bytes_disjoint e bytes budget (filter, is) (too_much policies needs holds costs small) =
      let there = enforced_there limits filter is.needs is.costs in
      let listed = listed_in bytes filter there.0 is.message there.1 in
      let same = policies_are bytes filter is.message policies holds in
      let most : Covers (policies_need listed.0) needs =
      cost_most limits (entries (map_of text is.message.rules.policies.0)) listed.0 needs listed.1 (subst (λ ns. SomeCost limits ns needs) same costs) in
      let own : is.needs ≡ policies_need listed.0 = sym there.2 ∙ listed.2 in
      let covered : Covers budget (policies_need listed.0) = subst (Covers budget) own is.covered in
      let most_steps = most.0 in
      let most_visits = most.1 in
      let steps = covered.0 in
      let visits = covered.1 in
      elim small [
        | inl (at, above) ↦ absurd (omega (arith, most_steps, steps, above))
        | inr (at, above) ↦ absurd (omega (arith, most_visits, visits, above))
      ]
