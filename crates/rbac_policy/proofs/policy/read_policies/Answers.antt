use Rattle.std.proofs.Common.{arith, ◌≡◌, ◌+◌, ◌-◌, ◌⊎◌, ◌++◌, ◌∷◌, [], ℕ, List, Bor, Some, inl, inr, drop, length, take, option_map, refl, sym, ap, subst, ◌∙◌}
use Rattle.std.proofs.lemmas.List.{append-nil, length-append, length-map, length-take-le, drop_more, map-append, map_more, take-append-drop, take_all}
use Rattle.std.specs.Cmp.Lexicographic.{nat_list_cmp_total}
use Rattle.std.specs.FinMap.{find}
use Rattle.std.specs.Prelude.{slice_get}
use Rattle.smallvec.specs.SmallVec.{SmallVec}
use Rattle.attributes.specs.Headers.{name_cmp}
use Rattle.proto_wire.specs.Merge.{parts_view}
use Rattle.proto_wire.specs.Maps.{Entry, text, SomeValueFault}
use Rattle.proto_wire.proofs.PlaceExits.{exit_memory_or, exit_with}
use Rattle.proto_wire.proofs.MapOrder.{find_at}
use Rattle.proto_wire.proofs.MapValues.{held_push}
use Rattle.proto_wire.specs.private.Maps.{Held}
use Rattle.rbac_match.specs.Tokens.{Token}
use Rattle.rbac_match.proofs.Adding.{stays}
use Rattle.rbac_policy.specs.declared.policy.NamedPolicy.{NamedPolicy}
use Rattle.rbac_policy.specs.Enforced.{policies_need, program_needs}
use Rattle.cost_bound.specs.Budgets.{sum_of}
use Rattle.cost_bound.specs.declared.budget.Budget.{Budget}
use Rattle.cost_bound.proofs.BudgetLaws.{nothing_before, sum_assoc}
use Rattle.rbac_policy.specs.Budget.{OverInPolicies}
use Rattle.rbac_policy.specs.Condition.{Program}
use Rattle.rbac_policy.specs.Fault.{PolicyFault}
use Rattle.rbac_policy.specs.Filter.{Policy}
use Rattle.rbac_policy.specs.Named.{named_view, named_views, policy_view, program_view}
use Rattle.rbac_policy.specs.Places.{PoliciesOr}
use Rattle.rbac_policy.specs.private.Conditions.{ConditionsFault, IsEnforced}
use Rattle.rbac_policy.specs.private.Named.{names_view}
use Rattle.rbac_policy.proofs.Besides.{name_same}
use Rattle.rbac_policy.proofs.Places.{at_map, entry_in}
use Rattle.rbac_policy.proofs.Spending.{entries_cost, needs_push, one_fails}
use Rattle.rbac_policy.proofs.policy.read_policies.Goals as goal

-- what an entry stands for
abbrev entry_of : Bor (List ℕ) × SmallVec (Bor (List ℕ)) → Entry text
entry_of e = (e.0.now, parts_view e.1.items)

pub loop-entry-init : goal.loop-entry-init
loop-entry-init c = rw c.in_ok-policies.ensures.items ((λ more. refl), (λ list. nothing_before _), refl)

pub less-requires : goal.less-requires
less-requires c = rw c.needs.ensures c.in_ok-policy.ensures.covered

pub returns-in_err-policy-clause-fault : goal.returns-in_err-policy-clause-fault
returns-in_err-policy-clause-fault c =
    let named = c.args.named.now in
    let i = c.loop-entry.entry-index in
    let e = c.entry-item.result in
    let n : Entry text = entry_of e in
    let Found : Bor (List ℕ) × SmallVec (Bor (List ℕ)) → Type 0 = λ x. find name_cmp (entry_of x).0 (names_view named) ≡ Some (entry_of x).1 in
    let found = subst Found (sym c.entry-item.is)
    (find_at name_cmp nat_list_cmp_total name_same entry_of named i e c.requires c.loop-entry-test.true) in
    let all : List (Entry text) = names_view named in
    let rest : drop i named ≡ e ∷ drop (i + 1) named =
    drop_more named i e c.loop-entry-test.true ∙ ap (λ x. x ∷ drop (i + 1) named) (sym c.entry-item.is) in
    let split : all ≡ names_view (take i named) ++ n ∷ names_view (drop (i + 1) named) =
    ap names_view (sym (take-append-drop i named) ∙ ap (λ es. take i named ++ es) rest)
    ∙ map-append entry_of (take i named) _ in
    exit_memory_or (λ e. PolicyFault n.1 e ⊎ ConditionsFault (n ∷ []) c.args.limits.now c.loop-entry.left e)
    (λ e. SomeValueFault text PolicyFault all e ⊎ ConditionsFault all c.args.limits.now c.args.left.now e)
    c.from_residual-in_err-policy.result c.in_err-policy.field-0.0 c.from_residual-in_err-policy.ensures.1 c.in_err-policy.ensures.fault
    (λ e bad. elim bad [
      | inl own ↦ inl (n.0, n.1, found, own)
      | inr cost ↦ inr (rw split (one_fails c.args.limits.now c.args.left.now c.loop-entry.left e (names_view (take i named)) n (names_view (drop (i + 1) named))
          (named_views (c.loop-entry.list ++ []) c.loop-entry.policies.items) (c.loop-entry.invariant.0 []) (c.loop-entry.invariant.1 (c.loop-entry.list ++ [])) cost))
    ])

pub loop-entry-preserved : goal.loop-entry-preserved
loop-entry-preserved c =
    let named = c.args.named.now in
    let i = c.loop-entry.entry-index in
    let e = c.entry-item.result in
    let n : Entry text = entry_of e in
    let p : NamedPolicy = c.in_ok-policy.policy in
    let before : List NamedPolicy = c.loop-entry.policies.items in
    let on = c.in_ok-policy.ensures.kept in
    let seen : names_view (take (i + 1) named) ≡ names_view (take i named) ++ n ∷ [] =
    map_more entry_of named i e c.loop-entry-test.true ∙ ap (λ x. names_view (take i named) ++ entry_of x ∷ []) (sym c.entry-item.is) in
    let made : (list : List Token) → named_views list c.push.new.self.items ≡ named_views list before ++ (n.0, policy_view list p) ∷ [] =
    λ list. ap (named_views list) c.in_ok-push.ensures.items ∙ map-append (named_view list) before (p ∷ [])
    ∙ ap (λ x. named_views list before ++ (x, policy_view list p) ∷ []) c.in_ok-policy.ensures.named in
    let found = c.in_ok-policy.ensures.found in
    let vs : (list : List Token) → List (List ℕ × Policy Program) = λ list. named_views list before in
    let own : (list : List Token) → Policy Program = λ list. policy_view list p in
    let leaves : (list : List Token) → sum_of (policies_need (vs list ++ (n.0, own list) ∷ [])) c.less.result ≡ c.args.left.now =
    λ list. ap (λ needs. sum_of needs c.less.result) (needs_push (vs list) n.0 (own list))
    ∙ sum_assoc (policies_need (vs list)) (program_needs (option_map program_view p.condition)) c.less.result
    ∙ ap (sum_of (policies_need (vs list))) (ap (λ needs. sum_of needs c.less.result) (sym c.needs.ensures) ∙ c.less.ensures)
    ∙ c.loop-entry.invariant.1 list in (
      (λ more. rw (seen, made (c.read_entry.new.list ++ more)) (held_push text (IsEnforced c.args.limits.now) _ _ n (policy_view (c.read_entry.new.list ++ more) p)
          (stays c.loop-entry.list c.read_entry.new.list more
          (λ list. Held text (IsEnforced c.args.limits.now) (names_view (take i named)) (named_views list before)) on c.loop-entry.invariant.0) (found more))),
      (λ list. rw (made list) (leaves list)),
      ap length c.in_ok-push.ensures.items ∙ length-append before (p ∷ []) ∙ ap (λ n. n + 1) c.loop-entry.invariant.2,
    )

pub returns-clause-found : goal.returns-clause-found
returns-clause-found c =
    let named = c.args.named.now in
    let all = take_all c.loop-entry.entry-index named c.loop-entry-test.false in
    let held : Held text (IsEnforced c.args.limits.now) (names_view named) (named_views (c.loop-entry.list ++ []) c.loop-entry.policies.items) =
    rw all at (c.loop-entry.invariant.0 []) in
    rw (append-nil c.loop-entry.list) at held

pub overflow_sub-result : goal.overflow_sub-result
overflow_sub-result c =
    let leaves = ap (λ (b : Budget). b.steps) (c.loop-entry.invariant.1 c.loop-entry.list) in
    omega (arith, leaves)

pub returns-clause-cost : goal.returns-clause-cost
returns-clause-cost c =
    let leaves = ap (λ (b : Budget). b.steps) (c.loop-entry.invariant.1 c.loop-entry.list) in
    omega (arith, leaves)

pub returns-clause-covered : goal.returns-clause-covered
returns-clause-covered c =
    let steps = ap (λ (b : Budget). b.steps) (c.loop-entry.invariant.1 c.loop-entry.list) in
    let visits = ap (λ (b : Budget). b.visits) (c.loop-entry.invariant.1 c.loop-entry.list) in
    (omega (arith, steps), omega (arith, visits))

pub returns-in_err-policy-clause-place : goal.returns-in_err-policy-clause-place
returns-in_err-policy-clause-place c =
    let named = c.args.named.now in
    let i = c.loop-entry.entry-index in
    let e = c.entry-item.result in
    let n : Entry text = entry_of e in
    let at : slice_get (names_view named) i ≡ Some n =
    at_map entry_of named i e c.loop-entry-test.true ∙ ap (λ x. Some (entry_of x)) (sym c.entry-item.is) in
    let index : c.len.result ≡ i = c.len.ensures ∙ c.loop-entry.policies.ok.0 ∙ c.loop-entry.invariant.2 in
    let rest : drop i named ≡ e ∷ drop (i + 1) named =
    drop_more named i e c.loop-entry-test.true ∙ ap (λ x. x ∷ drop (i + 1) named) (sym c.entry-item.is) in
    let split : names_view named ≡ names_view (take i named) ++ n ∷ names_view (drop (i + 1) named) =
    ap names_view (sym (take-append-drop i named) ∙ ap (λ es. take i named ++ es) rest)
    ∙ map-append entry_of (take i named) _ in
    let within = c.loop-entry-test.true in
    let long : length (names_view (take i named)) ≡ i =
    length-map (take i named) entry_of ∙ length-take-le i named (omega (arith, within)) in
    exit_with (PoliciesOr (OverInPolicies c.args.limits.now c.args.left.now c.loop-entry.left (names_view named)) (names_view named))
    c.from_residual-in_err-policy.result c.in_err-policy.field-0.0
    c.from_residual-in_err-policy.ensures.1
    (entry_in c.args.limits.now c.args.left.now c.loop-entry.left (names_view named) (names_view (take i named)) (names_view (drop (i + 1) named)) i n c.in_err-policy.field-0.0
    (policies_need (named_views (c.loop-entry.list ++ []) c.loop-entry.policies.items)) at split long
    (entries_cost c.args.limits.now (names_view (take i named)) (named_views (c.loop-entry.list ++ []) c.loop-entry.policies.items) (c.loop-entry.invariant.0 []))
    (c.loop-entry.invariant.1 (c.loop-entry.list ++ []))
    (rw index at c.in_err-policy.ensures.place))
