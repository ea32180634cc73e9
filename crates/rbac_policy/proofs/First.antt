-- The first policy that matches, among policies in ascending order of names.
use Rattle.std.proofs.Common.{◌≡◌, ℕ, ◌+◌, ◌↔◌, Bool, true, false, cond, T, IsTrue, List, [], ◌∷◌, Option, Some, None, MatchOption, IsSomeAnd, is_some, map, count_by, refl, sym, ap, subst, arith, ◌∙◌, zero-add}
use Rattle.std.proofs.lemmas.List.Sums.{sum_by-cons}
use Rattle.std.specs.List.{position_from}
use Rattle.std.specs.Ordering.{eq_by_cmp, is_lt}
use Rattle.std.specs.Cmp.{tied_itself}
use Rattle.std.specs.Cmp.Lexicographic.{nat_list_cmp_total}
use Rattle.std.specs.FinMap.{find, is_sorted, get, keys, from_entries, get-from_entries}
use Rattle.attributes.specs.Request.{RequestValue}
use Rattle.rbac_policy.specs.Filter.{Policy, Filter}
use Rattle.attributes.specs.Headers.{name_cmp}
use Rattle.rbac_policy.specs.Verdict.{Matches, policy_matches, SomeMatches, IsLeastMatch, number_of, LetsThrough, IsVerdict}
use Rattle.rbac_policy.specs.private.Action.{allows}
use Rattle.rbac_policy.specs.declared.filter.Action.{Action}
use Rattle.rbac_policy.specs.declared.filter.Action.TheVariants.{Allow, Deny, Log}
use Rattle.rbac_policy.proofs.Besides.{found_itself, name_same, there}
use Rattle.proto_wire.proofs.MapOrder.{both_first, both_second, tie, found_later, above_all, not_below, none_below, entries_from_entries}

-- a position in a list is the position in what a function makes of it
pub position_map : {A B : Type 0} (f : A → B) (p : B → Bool) (i : ℕ) (xs : List A)
    → position_from p i (map f xs) ≡ position_from (λ x. p (f x)) i xs
position_map f p i [] = refl
position_map f p i (x ∷ xs) = ap (cond (p (f x)) (Some i)) (position_map f p (i + 1) xs)

module _ {X : Type 0} (t : X → Bool) where
  -- the entry of a name is there and passes
  abbrev pub Passes : List (List ℕ × X) → List ℕ → Type 0
  Passes es name = IsSomeAnd (find name_cmp name es) (λ x. IsTrue (t x))

  -- the least name that passes, with the number of names below it from i on, or none
  abbrev pub Reports : ℕ → List (List ℕ × X) → Option ℕ → Type 0
  Reports i es o = MatchOption o ((name : List ℕ) → Passes es name → ⊥)
      (λ k. (name : List ℕ) × (Passes es name × ((other : List ℕ) → Passes es other → is_lt (name_cmp other name) ≡ false)) × (k ≡ i + count_by (λ n. is_lt (name_cmp n name)) (map (λ e. e.0) es)))

  -- what passes is there
  passing : (o : Option X) → IsSomeAnd o (λ x. IsTrue (t x)) → (x : X) × (o ≡ Some x) × IsTrue (t x)
  passing o h = there (λ x. IsTrue (t x)) o h

  module _ (i : ℕ) (e : List ℕ × X) (es : List (List ℕ × X)) (sorted : T (is_sorted name_cmp (e ∷ es))) where
    pub least_first : (other : List ℕ) → Passes (e ∷ es) other → is_lt (name_cmp other e.0) ≡ false
    least_first other = elim (eq_by_cmp name_cmp other e.0) as (λ b. eq_by_cmp name_cmp other e.0 ≡ b → IsSomeAnd (cond b (Some e.1) (find name_cmp other es)) (λ x. IsTrue (t x)) → is_lt (name_cmp other e.0) ≡ false) [
      | true ↦ λ same h. ap (λ q. is_lt (name_cmp q e.0)) (tie name_cmp nat_list_cmp_total name_same other e.0 same) ∙ ap is_lt (tied_itself nat_list_cmp_total e.0)
      | false ↦ λ apart h. let p = passing (find name_cmp other es) h in not_below name_cmp nat_list_cmp_total e.0 other (above_all name_cmp nat_list_cmp_total name_same e.0 es other p.0 (both_first _ _ sorted) p.1)
    ] refl

    first_passes : t e.1 ≡ true → Reports i (e ∷ es) (Some i)
    first_passes passes =
        let here : Passes (e ∷ es) e.0 = (let P : Option X → Type 0 = λ o. IsSomeAnd o (λ x. IsTrue (t x)) in subst P (sym (found_itself e es)) passes) in
        let p : List ℕ → Bool = λ n. is_lt (name_cmp n e.0) in
        let none : count_by p (map (λ x. x.0) (e ∷ es)) ≡ 0 =
        (let rest : count_by p (map (λ x. x.0) es) ≡ 0 = none_below name_cmp nat_list_cmp_total e.0 es (both_first _ _ sorted) in
        let counted : count_by p (map (λ x. x.0) (e ∷ es)) ≡ 0 + count_by p (map (λ x. x.0) es) =
        sum_by-cons (λ n. cond (p n) 1 0) e.0 (map (λ x. x.0) es) ∙ ap (λ r. cond (is_lt r) 1 0 + count_by p (map (λ x. x.0) es)) (tied_itself nat_list_cmp_total e.0) in
        omega (arith, counted, rest)) in
        (e.0, (here, least_first), omega (arith, none))

    -- a name of the rest, where the first does not pass
    pub in_rest : t e.1 ≡ false → (name : List ℕ) → Passes (e ∷ es) name → Passes es name
    in_rest fails name = elim (eq_by_cmp name_cmp name e.0) as (λ b. IsSomeAnd (cond b (Some e.1) (find name_cmp name es)) (λ x. IsTrue (t x)) → Passes es name) [
      | true ↦ λ h. let clash : true ≡ false = sym h ∙ fails in cc
      | false ↦ λ h. h
    ]

    later_passes : t e.1 ≡ false → (o : Option ℕ) → Reports (i + 1) es o → Reports i (e ∷ es) o
    later_passes fails None none = λ name h. none name (in_rest fails name h)
    later_passes fails (Some k) (name, (has, least), count) =
        let p = passing (find name_cmp name es) has in
        let there : Passes (e ∷ es) name = (let P : Option X → Type 0 = λ o. IsSomeAnd o (λ x. IsTrue (t x)) in subst P (sym (found_later name_cmp nat_list_cmp_total name_same e es name p.0 sorted p.1)) p.2) in
        let below : List ℕ → Bool = λ n. is_lt (name_cmp n name) in
        let counted : count_by below (map (λ x. x.0) (e ∷ es)) ≡ 1 + count_by below (map (λ x. x.0) es) =
        sum_by-cons (λ n. cond (below n) 1 0) e.0 (map (λ x. x.0) es) ∙ ap (λ r. cond (is_lt r) 1 0 + count_by below (map (λ x. x.0) es)) (above_all name_cmp nat_list_cmp_total name_same e.0 es name p.0 (both_first _ _ sorted) p.1) in
        (name, (there, λ other h. least other (in_rest fails other h)), omega (arith, count, counted))

  pub first_reports : (i : ℕ) (es : List (List ℕ × X)) → T (is_sorted name_cmp es)
      → Reports i es (position_from (λ e. t e.1) i es)
  first_reports i [] sorted = λ name h. h
  first_reports i (e ∷ es) sorted = elim (t e.1) as (λ b. t e.1 ≡ b → Reports i (e ∷ es) (cond b (Some i) (position_from (λ x. t x.1) (i + 1) es))) [
    | true ↦ λ passes. first_passes i e es sorted passes
    | false ↦ λ fails. later_passes i e es sorted fails (position_from (λ x. t x.1) (i + 1) es) (first_reports (i + 1) es (both_second _ _ sorted))
  ] refl

-- a filter that has these policies in the order of their names
module _ {C : Type 0} (is_met : C → Bool) (r : RequestValue) (ps : List (List ℕ × Policy C)) (sorted : T (is_sorted name_cmp ps))
    (filter : Filter C) (same : filter.policies ≡ from_entries ps) where
  -- what stands at a name
  pub stands : (name : List ℕ) → get filter.policies name ≡ find name_cmp name ps
  stands name = ap (λ m. get m name) same ∙ get-from_entries nat_list_cmp_total ps name

  -- what matches in the filter is what passes in the list
  to_list : (name : List ℕ) → Matches is_met r filter name → Passes (policy_matches is_met r) ps name
  to_list name h = let P : Option (Policy C) → Type 0 = λ o. IsSomeAnd o (λ p. IsTrue (policy_matches is_met r p)) in subst P (stands name) h

  to_map : (name : List ℕ) → Passes (policy_matches is_met r) ps name → Matches is_met r filter name
  to_map name h = let P : Option (Policy C) → Type 0 = λ o. IsSomeAnd o (λ p. IsTrue (policy_matches is_met r p)) in subst P (sym (stands name)) h

  -- the least name that matches, with its number, or none
  abbrev Reported : Option ℕ → Type 0
  Reported o = MatchOption o (SomeMatches is_met r filter → ⊥) (λ k. (name : List ℕ) × IsLeastMatch is_met r filter name × (k ≡ number_of filter name))

  -- what the list reports is what the filter does
  reported : (o : Option ℕ) → Reports (policy_matches is_met r) 0 ps o → Reported o
  reported None none = λ (name, h). none name (to_list name h)
  reported (Some k) (name, (has, least), count) =
      let names : keys filter.policies ≡ map (λ e. e.0) ps = ap keys same ∙ ap (map (λ e. e.0)) (entries_from_entries name_cmp nat_list_cmp_total ps sorted) in
      (name, (to_map name has, λ other h. least other (to_list other h)), rw names (count ∙ zero-add _))

  -- each action answers by whether some policy matches
  answered : (action : Action) (o : Option ℕ) → Reported o
      → IsTrue (allows action (is_some o)) ↔ LetsThrough action (SomeMatches is_met r filter)
  answered Allow None none = (λ e. let clash : false ≡ true = e in absurd cc, λ some. absurd (none some))
  answered Allow (Some k) (name, least, count) = (λ e. (name, least.0), λ some. refl)
  answered Deny None none = (λ e. none, λ some. refl)
  answered Deny (Some k) (name, least, count) = (λ e. let clash : false ≡ true = e in absurd cc, λ none. absurd (none (name, least.0)))
  answered Log o is = (λ e. tt, λ always. refl)

  -- the first that matches is the filter's answer
  pub verdict : (o : Option ℕ) → o ≡ position_from (λ e. policy_matches is_met r e.1) 0 ps
      → IsVerdict is_met r filter (allows filter.action (is_some o)) o
  verdict o first =
      let is : Reported o = reported o (rw first (first_reports (policy_matches is_met r) 0 ps sorted)) in
      record { lets_through = answered filter.action o is; reported = is }

  -- names whose policies match in the filter are those of the list, and the other way
  pub lesser_in_list : (name : List ℕ) → ((other : List ℕ) → Matches is_met r filter other → is_lt (name_cmp other name) ≡ false)
      → (other : List ℕ) → Passes (policy_matches is_met r) ps other → is_lt (name_cmp other name) ≡ false
  lesser_in_list name lesser other h = lesser other (to_map other h)

  pub lesser_in_map : (name : List ℕ) → ((other : List ℕ) → Passes (policy_matches is_met r) ps other → is_lt (name_cmp other name) ≡ false)
      → (other : List ℕ) → Matches is_met r filter other → is_lt (name_cmp other name) ≡ false
  lesser_in_map name lesser other h = lesser other (to_list other h)
