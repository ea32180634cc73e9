-- The decisions of a filter: Envoy RBAC, "RBAC.Action", "RBAC.policies" and "Policy" (config.rbac.v3).
use Rattle.std.specs.Prelude.{◌≡◌, ℕ, ◌&&◌, ◌↔◌, Bool, true, false, IsTrue, List, Option, Some, None, IfSome, IsSomeAnd, MatchOption, count_by}
use Rattle.std.specs.Ordering.{is_lt}
use Rattle.std.specs.FinMap.{get, keys}
use Rattle.attributes.specs.Request.{RequestValue}
use Rattle.rbac_match.specs.Formula.{some_hold}
use Rattle.rbac_policy.specs.Filter.{Policy, Filter}
use Rattle.attributes.specs.Headers.{name_cmp}
use Rattle.rbac_policy.specs.declared.filter.Action.{Action}
use Rattle.rbac_policy.specs.declared.filter.Action.TheVariants.{Allow, Deny, Log}

-- whether some permission and some principal of the policy match the request
abbrev pub sides_match : {C : Type 0} → RequestValue → Policy C → Bool
sides_match r p = some_hold r p.permissions && some_hold r p.principals

-- the number of a name: how many of the filter's names are less than it
abbrev pub number_of : {C : Type 0} → Filter C → List ℕ → ℕ
number_of filter name = count_by (λ other. is_lt (name_cmp other name)) (keys filter.policies)

-- when an action lets a request through: `Allow` on a match, `Deny` on no match, `Log` always
abbrev pub LetsThrough : Action → Type 0 → Type 0
LetsThrough Allow Match = Match
LetsThrough Deny Match = Match → ⊥
LetsThrough Log Match = Unit {0}

-- no policy of the filter has a condition
abbrev pub IsUnconditional : {C : Type 0} → Filter C → Type 0
IsUnconditional filter =
    (name : List ℕ) → IfSome (get filter.policies name) (λ p. p.condition ≡ None)

-- the decision of a filter. `is_met` says which conditions the request meets: those that evaluate to true, so
-- an error is no match
module _ {C : Type 0} (is_met : C → Bool) where
  -- whether the condition is met; without a condition, nothing more is required
  abbrev pub condition_holds : Option C → Bool
  condition_holds None = true
  condition_holds (Some condition) = is_met condition

  -- whether some permission, some principal and the condition of the policy match the request
  abbrev pub policy_matches : RequestValue → Policy C → Bool
  policy_matches r p = sides_match r p && condition_holds p.condition

  -- the filter has a policy of this name, and it matches
  abbrev pub Matches : RequestValue → Filter C → List ℕ → Type 0
  Matches r filter name = IsSomeAnd (get filter.policies name) (λ p. IsTrue (policy_matches r p))

  -- some policy of the filter matches
  abbrev pub SomeMatches : RequestValue → Filter C → Type 0
  SomeMatches r filter = (name : List ℕ) × Matches r filter name

  -- the name is the least of those whose policies match
  abbrev pub IsLeastMatch : RequestValue → Filter C → List ℕ → Type 0
  IsLeastMatch r filter name = Matches r filter name
      × ((other : List ℕ) → Matches r filter other → is_lt (name_cmp other name) ≡ false)

  -- the answer of the filter, by its action, and the number of the least name whose policy matches
  pub record IsVerdict (r : RequestValue) (filter : Filter C) (allowed : Bool) (matched : Option ℕ)
      : Type 0 where
    pub lets_through : IsTrue allowed ↔ LetsThrough filter.action (SomeMatches r filter)
    pub reported : MatchOption matched (SomeMatches r filter → ⊥)
        (λ k. (name : List ℕ) × IsLeastMatch r filter name × (k ≡ number_of filter name))

  -- the verdict asks for the condition: permissions and principals of its policy match, and no policy of a
  -- lesser name matches
  abbrev pub IsAsked : RequestValue → Filter C → C → Type 0
  IsAsked r filter condition = (name : List ℕ)
      × IsSomeAnd (get filter.policies name)
      (λ p. IsTrue (sides_match r p) × (p.condition ≡ Some condition))
      × ((other : List ℕ) → Matches r filter other → is_lt (name_cmp other name) ≡ false)

  -- `P` holds of some condition that the verdict asks for
  abbrev pub SomeAsked : (C → Type 0) → RequestValue → Filter C → Type 0
  SomeAsked P r filter = (condition : C) × IsAsked r filter condition × P condition
