-- What is enforced of policies, in lists and in maps, and what their conditions cost together.
use Rattle.std.proofs.Common.{arith, ◌≡◌, ◌≤◌, ◌+◌, ◌↔◌, inl, inr, ℕ, List, [], ◌∷◌, ◌++◌, Option, Some, None, MatchOption, IsSomeAnd, T, refl, sym, ap, ap₂, subst, ◌∙◌}
use Rattle.std.specs.Cmp.Lexicographic.{nat_list_cmp_total}
use Rattle.std.specs.FinMap.{FinMap, entries, entries_sorted, find, from_entries, get, get-entries, get-from_entries, is_sorted, same_map}
use Rattle.attributes.specs.Headers.{name_cmp}
use Rattle.attributes.specs.Limits.{LimitsValue}
use Rattle.cel_tree.specs.Checked.{CelChecked}
use Rattle.cel_tree.specs.Message.{IsExprOf}
use Rattle.cel_read.proofs.CheckedLaws.{expr_given, expr_unique}
use Rattle.proto_wire.specs.Maps.{Entry, text, AreValues}
use Rattle.proto_wire.specs.private.Maps.{Held}
use Rattle.proto_wire.proofs.MapOrder.{entries_from_entries}
use Rattle.proto_wire.proofs.Unique.{merges_unique}
use Rattle.cost_bound.specs.Budgets.{Covers, nothing, sum_of}
use Rattle.cost_bound.specs.declared.budget.Budget.{Budget}
use Rattle.cost_bound.proofs.BudgetLaws.{nothing_before, sum_assoc}
use Rattle.rbac_policy.specs.Condition.{IsProgramOf, Program}
use Rattle.rbac_policy.specs.Costs.{Costs, FilterCosts, PoliciesCost, PolicyCosts}
use Rattle.rbac_policy.specs.Enforced.{Enforces, EnforcesPolicy, policies_need, program_needs, total_needs}
use Rattle.rbac_policy.specs.Fault.{SomeCost}
use Rattle.rbac_policy.specs.Filter.{Filter, Policy}
use Rattle.rbac_policy.specs.Message.{IsCondition, IsPolicy, condition_in}
use Rattle.rbac_policy.specs.declared.filter.Action.{Action}
use Rattle.rbac_policy.specs.private.Conditions.{IsEnforced}
use Rattle.rbac_policy.proofs.Besides.{Beside, beside_find, beside_map, beside_maps, in_a_row, name_same, sorted_beside}
use Rattle.rbac_policy.proofs.Programs.{cost_unique, program_costs, program_of_cost, program_unique}

module _ (limits : LimitsValue) where
  -- ---- one policy

  -- of a policy one thing is enforced at most
  pub enforced_unique : (policy : Policy CelChecked) (a b : Policy Program) → EnforcesPolicy limits policy a
      → EnforcesPolicy limits policy b → a ≡ b
  enforced_unique policy a b g h =
      let permissions : a.permissions ≡ b.permissions = g.permissions ∙ sym h.permissions in
      let principals : a.principals ≡ b.principals = g.principals ∙ sym h.principals in
      let condition : a.condition ≡ b.condition = one policy.condition a.condition b.condition g.condition h.condition in
      λ i. record { permissions = permissions i; principals = principals i; condition = condition i }
    where
      one : (c : Option CelChecked) (x y : Option Program)
          → MatchOption c (x ≡ None) (λ d. IsSomeAnd x (IsProgramOf limits d))
          → MatchOption c (y ≡ None) (λ d. IsSomeAnd y (IsProgramOf limits d)) → x ≡ y
      one None x y g h = g ∙ sym h
      one (Some c) None y g h = absurd g
      one (Some c) (Some p) None g h = absurd h
      one (Some c) (Some p) (Some q) g h = ap Some (program_unique limits c p q g h)

  -- ---- a filter

  -- of a filter one thing is enforced at most
  pub enforces_unique : (filter : Filter CelChecked) (a b : Filter Program) → Enforces limits filter a
      → Enforces limits filter b → a ≡ b
  enforces_unique filter a b g h =
      let action : a.action ≡ b.action = g.action ∙ sym h.action in
      let policies : a.policies ≡ b.policies = same_map nat_list_cmp_total name_same a.policies b.policies
      (λ name. one (get filter.policies name) (get a.policies name) (get b.policies name) (g.policies name) (h.policies name)) in
      λ i. record { action = action i; policies = policies i }
    where
      one : (o : Option (Policy CelChecked)) (x y : Option (Policy Program))
          → MatchOption o (x ≡ None) (λ p. IsSomeAnd x (EnforcesPolicy limits p))
          → MatchOption o (y ≡ None) (λ p. IsSomeAnd y (EnforcesPolicy limits p)) → x ≡ y
      one None x y g h = g ∙ sym h
      one (Some p) None y g h = absurd g
      one (Some p) (Some u) None g h = absurd h
      one (Some p) (Some u) (Some v) g h = ap Some (enforced_unique p u v g h)

  -- policies of which this is enforced are those of the payloads
  pub apart : (ns : List (Entry text)) (vs : List (List ℕ × Policy Program))
      → Beside (IsEnforced limits) ns vs
      → (ps : List (List ℕ × Policy CelChecked)) × Held text IsPolicy ns ps × Beside (EnforcesPolicy limits) ps vs
  apart [] vs held = ([], refl, held)
  apart (n ∷ ns) vs (v, others, (p, is, enforces), rest, made) =
      let r = apart ns others rest in
      ((n.0, p) ∷ r.0, (p, r.0, is, r.1, refl), (v, others, enforces, r.2, made))

  -- what is enforced of each policy of a map is enforced of the filter
  pub filter_enforced : (action : Action) (ps : List (List ℕ × Policy CelChecked))
      (vs : List (List ℕ × Policy Program)) → Beside (EnforcesPolicy limits) ps vs
      → Enforces limits (record { action = action; policies = from_entries ps })
      (record { action = action; policies = from_entries vs })
  filter_enforced action ps vs beside = record {
    action = refl;
    policies = λ name. beside_maps (EnforcesPolicy limits) ps vs beside name;
  }

  -- what is enforced of a filter stands beside the payloads of its policies
  pub enforced_beside : (named : FinMap name_cmp (List (List ℕ))) (filter : Filter CelChecked)
      (enforced : Filter Program) → AreValues text IsPolicy named filter.policies → Enforces limits filter enforced
      → (vs : List (List ℕ × Policy Program)) × Beside (IsEnforced limits) (entries named) vs
      × (total_needs enforced ≡ policies_need vs)
  enforced_beside named filter enforced are enforces =
      let each : (name : List ℕ) → MatchOption (find name_cmp name (entries named)) (get enforced.policies name ≡ None)
      (λ parts. IsSomeAnd (get enforced.policies name) (IsEnforced limits parts)) =
      (λ name. rw (← get-entries named name) (in_a_row IsPolicy (EnforcesPolicy limits) (IsEnforced limits) (λ parts p v is enf. (p, is, enf))
      (get named name) (get filter.policies name) (get enforced.policies name) (are name) (enforces.policies name))) in
      let it = beside_map (IsEnforced limits) enforced.policies (entries named) (entries_sorted named) each in
      let order = subst (λ b. T b) (sorted_beside (IsEnforced limits) (entries named) it.0 it.1) (entries_sorted named) in
      (it.0, it.1, ap (λ m. policies_need (entries m)) it.2 ∙ ap policies_need (entries_from_entries name_cmp nat_list_cmp_total it.0 order))

  -- what the policies of a map may take is what they may take in their order
  pub total_of : (action : Action) (vs : List (List ℕ × Policy Program)) → T (is_sorted name_cmp vs)
      → total_needs (record { action = action; policies = from_entries vs }) ≡ policies_need vs
  total_of action vs sorted = ap policies_need (entries_from_entries name_cmp nat_list_cmp_total vs sorted)

  -- ---- what policies cost

  -- no policy need count
  pub costs_nothing : (ns : List (Entry text)) → SomeCost limits ns nothing
  costs_nothing [] = refl
  costs_nothing (n ∷ ns) = inl (costs_nothing ns)

  -- the cost of one policy among others
  pub cost_of_one : (n : Entry text) (more : List (Entry text)) (cost : Budget) → SomeCost limits (n ∷ []) cost
      → SomeCost limits (n ∷ more) cost
  cost_of_one n more cost (inl none) = inl (rw none (costs_nothing more))
  cost_of_one n more cost (inr (c, own, rest, has, is, none, sum)) =
      inr (c, own, nothing, has, is, costs_nothing more, sum ∙ ap (λ k. sum_of own k) none)

  -- the costs of some policies and of some that follow
  pub costs_append : (ns ms : List (Entry text)) (a b : Budget) → SomeCost limits ns a → SomeCost limits ms b
      → SomeCost limits (ns ++ ms) (sum_of a b)
  costs_append [] ms a b g h = rw (g, nothing_before b) h
  costs_append (n ∷ ns) ms a b (inl g) h = inl (costs_append ns ms a b g h)
  costs_append (n ∷ ns) ms a b (inr (c, own, rest, has, is, g, sum)) h =
      inr (c, own, sum_of rest b, has, is, costs_append ns ms rest b g h, ap (λ k. sum_of k b) sum ∙ sum_assoc own rest b)

  -- what is enforced of a policy costs that
  pub one_costs : (n : Entry text) (more : List (Entry text)) (v : Policy Program) (cost : Budget)
      → IsEnforced limits n.1 v → SomeCost limits more cost
      → SomeCost limits (n ∷ more) (sum_of (program_needs v.condition) cost)
  one_costs n more v cost (p, is, enforces) others =
      by p.condition v.condition is.condition enforces.condition
    where
      by : (c : Option CelChecked) (q : Option Program) → IsCondition (condition_in is.fs) c
          → MatchOption c (q ≡ None) (λ d. IsSomeAnd q (IsProgramOf limits d))
          → SomeCost limits (n ∷ more) (sum_of (program_needs q) cost)
      by None q reads none = inl (rw (none, nothing_before cost) others)
      by (Some c) None reads h = absurd h
      by (Some c) (Some q) reads h =
          inr (
            c,
            program_needs (Some q),
            cost,
            record { fs = is.fs; merges = is.message.0; reads = reads.1 },
            program_costs limits c q h,
            others,
            refl,
          )

  -- so do all
  pub all_cost : (ns : List (Entry text)) (vs : List (List ℕ × Policy Program))
      → Beside (IsEnforced limits) ns vs → SomeCost limits ns (policies_need vs)
  all_cost [] vs beside = rw beside refl
  all_cost (n ∷ ns) vs (v, others, is, rest, made) =
      let cost : SomeCost limits (n ∷ ns) (sum_of (program_needs v.condition) (policies_need others)) =
      one_costs n ns v (policies_need others) is (all_cost ns others rest) in
      rw made cost

  -- and none cost more
  pub cost_most : (ns : List (Entry text)) (vs : List (List ℕ × Policy Program)) (cost : Budget)
      → Beside (IsEnforced limits) ns vs → SomeCost limits ns cost → Covers (policies_need vs) cost
  cost_most [] vs cost beside none =
      let steps : cost.steps ≡ 0 = ap (λ (b : Budget). b.steps) none in
      let visits : cost.visits ≡ 0 = ap (λ (b : Budget). b.visits) none in
      (omega (arith, steps), omega (arith, visits))
  cost_most (n ∷ ns) vs cost (v, others, is, rest, made) (inl skipped) =
      let most = cost_most ns others cost rest skipped in
      let steps = most.0 in
      let visits = most.1 in
      rw made (omega (arith, steps), omega (arith, visits))
  cost_most (n ∷ ns) vs cost (v, others, (p, is, enforces), rest, made) (inr (c, own, less, has, costs, g, sum)) =
      let most = cost_most ns others less rest g in
      let reads : IsExprOf (condition_in is.fs) c =
      subst (λ fs. IsExprOf (condition_in fs) c) (merges_unique n.1 has.fs is.fs has.merges is.message.0) has.reads in
      let same : own ≡ program_needs v.condition = by reads p.condition v.condition is.condition enforces.condition in
      let steps : own.steps ≡ (program_needs v.condition).steps = ap (λ (b : Budget). b.steps) same in
      let visits : own.visits ≡ (program_needs v.condition).visits = ap (λ (b : Budget). b.visits) same in
      let more_steps : cost.steps ≡ own.steps + less.steps = ap (λ (b : Budget). b.steps) sum in
      let more_visits : cost.visits ≡ own.visits + less.visits = ap (λ (b : Budget). b.visits) sum in
      let most_steps = most.0 in
      let most_visits = most.1 in
      rw made (omega (arith, most_steps, steps, more_steps), omega (arith, most_visits, visits, more_visits))
    where
      by : IsExprOf (condition_in is.fs) c → (d : Option CelChecked) (x : Option Program)
          → IsCondition (condition_in is.fs) d
          → MatchOption d (x ≡ None) (λ e. IsSomeAnd x (IsProgramOf limits e)) → own ≡ program_needs x
      by reads None x none h =
          absurd (none (expr_given (condition_in is.fs) c reads))
      by reads (Some d) None there h = absurd h
      by reads (Some d) (Some x) there h =
          let one : c ≡ d = expr_unique (condition_in is.fs) c d reads there.1 in
          cost_unique limits d own (program_needs (Some x)) (subst (λ e. Costs limits e own) one costs) (program_costs limits d x h)

  -- ---- what a filter costs

  -- what is enforced of a policy may take what it costs
  pub policy_costs : (policy : Policy CelChecked) (v : Policy Program) → EnforcesPolicy limits policy v
      → PolicyCosts limits policy (program_needs v.condition)
  policy_costs policy v enforces = by policy.condition v.condition enforces.condition
    where
      by : (c : Option CelChecked) (q : Option Program) → MatchOption c (q ≡ None) (λ d. IsSomeAnd q (IsProgramOf limits d))
          → MatchOption c (program_needs q ≡ nothing) (λ d. Costs limits d (program_needs q))
      by None None none = refl
      by None (Some q) none = let clash : Some q ≡ None = none in cc
      by (Some c) None is = absurd is
      by (Some c) (Some q) is = program_costs limits c q is

  -- what is enforced of policies may take what they cost
  policies_cost : (ps : List (List ℕ × Policy CelChecked)) (vs : List (List ℕ × Policy Program))
      → Beside (EnforcesPolicy limits) ps vs → PoliciesCost limits ps (policies_need vs)
  policies_cost [] vs beside = rw beside refl
  policies_cost (p ∷ ps) vs (v, others, is, rest, made) = rw made (
    program_needs v.condition,
    policies_need others,
    policy_costs p.1 v is,
    policies_cost ps others rest,
    refl,
  )

  -- so may what is enforced of a filter
  pub enforced_costs : (filter : Filter CelChecked) (enforced : Filter Program) → Enforces limits filter enforced
      → FilterCosts limits filter (total_needs enforced)
  enforced_costs filter enforced enforces =
      let each : (name : List ℕ) → MatchOption (find name_cmp name (entries filter.policies)) (get enforced.policies name ≡ None)
      (λ policy. IsSomeAnd (get enforced.policies name) (EnforcesPolicy limits policy)) =
      (λ name. rw (← get-entries filter.policies name) (enforces.policies name)) in
      let it = beside_map (EnforcesPolicy limits) enforced.policies (entries filter.policies) (entries_sorted filter.policies) each in
      let order = subst (λ b. T b) (sorted_beside (EnforcesPolicy limits) (entries filter.policies) it.0 it.1) (entries_sorted filter.policies) in
      let sum : total_needs enforced ≡ policies_need it.0 =
      ap (λ m. policies_need (entries m)) it.2 ∙ ap policies_need (entries_from_entries name_cmp nat_list_cmp_total it.0 order) in
      rw sum (policies_cost (entries filter.policies) it.0 it.1)

  -- policies have one cost at most
  pub costs_unique : (ps : List (List ℕ × Policy CelChecked)) (m n : Budget) → PoliciesCost limits ps m
      → PoliciesCost limits ps n → m ≡ n
  costs_unique [] m n a b = a ∙ sym b
  costs_unique (p ∷ ps) m n (x, rest, is, others, sum) (y, more, also, those, total) =
      let own : x ≡ y = one p.1.condition is also in
      let same : rest ≡ more = costs_unique ps rest more others those in
      sum ∙ ap₂ sum_of own same ∙ sym total
    where
      one : (c : Option CelChecked) → MatchOption c (x ≡ nothing) (λ d. Costs limits d x)
          → MatchOption c (y ≡ nothing) (λ d. Costs limits d y) → x ≡ y
      one None a b = a ∙ sym b
      one (Some c) a b = cost_unique limits c x y a b

  -- the program of a condition that costs something
  condition_enforced : (c : Option CelChecked) (cost : Budget) → MatchOption c (cost ≡ nothing) (λ d. Costs limits d cost)
      → (q : Option Program) × MatchOption c (q ≡ None) (λ d. IsSomeAnd q (IsProgramOf limits d))
      × (program_needs q ≡ cost)
  condition_enforced None cost none = (None, refl, sym none)
  condition_enforced (Some c) cost is =
      let it = program_of_cost limits c cost is in (Some it.0, it.1, it.2)

  -- what is enforced of policies that cost something
  policies_enforced : (ps : List (List ℕ × Policy CelChecked)) (cost : Budget) → PoliciesCost limits ps cost
      → (vs : List (List ℕ × Policy Program)) × Beside (EnforcesPolicy limits) ps vs × (policies_need vs ≡ cost)
  policies_enforced [] cost none = ([], refl, sym none)
  policies_enforced (p ∷ ps) cost (own, rest, is, others, sum) =
      let q = condition_enforced p.1.condition own is in
      let more = policies_enforced ps rest others in
      let v : Policy Program = record {
        permissions = p.1.permissions;
        principals = p.1.principals;
        condition = q.0;
      } in
      let same = q.2 in
      let total = more.2 in (
        (p.0, v) ∷ more.0,
        (v, more.0, record { permissions = refl; principals = refl; condition = q.1 }, more.1, refl),
        ap₂ sum_of same total ∙ sym sum,
      )

  -- of a filter that costs something, what may take that much is enforced
  pub enforced_there : (filter : Filter CelChecked) (cost : Budget) → FilterCosts limits filter cost
      → (enforced : Filter Program) × Enforces limits filter enforced × (total_needs enforced ≡ cost)
  enforced_there filter cost costs =
      let it = policies_enforced (entries filter.policies) cost costs in
      let order : T (is_sorted name_cmp it.0) =
      subst T (sorted_beside (EnforcesPolicy limits) (entries filter.policies) it.0 it.1) (entries_sorted filter.policies) in (
        record { action = filter.action; policies = from_entries it.0 },
        record {
          action = refl;
          policies = λ name. rw (get-entries filter.policies name, get-from_entries nat_list_cmp_total it.0 name)
              (beside_find (EnforcesPolicy limits) (entries filter.policies) it.0 it.1 name);
        },
        total_of filter.action it.0 order ∙ it.2,
      )

  -- what is enforced of a filter may take what its conditions cost, and they cost nothing else
  pub bound_is_cost : (filter : Filter CelChecked) (enforced : Filter Program) (cost : Budget)
      → Enforces limits filter enforced → FilterCosts limits filter cost ↔ (cost ≡ total_needs enforced)
  bound_is_cost filter enforced cost enforces = (
    (λ costs. costs_unique (entries filter.policies) cost (total_needs enforced) costs (enforced_costs filter enforced enforces)),
    λ same. rw same (enforced_costs filter enforced enforces),
  )
