-- The loop over a filter's policies: those before the present one reported that they do not match.
use Rattle.std.proofs.Common.{arith, ◌≡◌, inl, inr, ℕ, ◌+◌, ◌<◌, true, false, List, [], ◌∷◌, ◌++◌, length, take, drop, get_or, map, Some, None, refl, sym, ap, subst, ◌∙◌, add-zero, zero-add}
use Rattle.std.proofs.lemmas.List.{append_assoc, length-map, map-append, take-append-drop, length-take-le, take_more}
use Rattle.std.specs.List.{AllByRecursion}
use Rattle.std.specs.Prelude.{Result, Err}
use Rattle.stack_machine.specs.declared.error.RunError.{RunError}
use Rattle.attributes.specs.Request.{RequestValue}
use Rattle.rbac_match.specs.Tokens.{Token}
use Rattle.rbac_policy.specs.Condition.{Program}
use Rattle.rbac_policy.specs.Filter.{Policy}
use Rattle.rbac_policy.specs.Named.{policy_view}
use Rattle.rbac_policy.specs.declared.policy.NamedPolicy.{NamedPolicy}
use Rattle.rbac_policy.specs.private.Runs.{Asks, HaveNoConditions, IsFirst, OnePolicyAsks, MatchesByRun}

module _ (r : RequestValue) where
  -- all reported that they do not match
  abbrev pub Failed : List (Policy Program) → Type 0
  Failed ps = AllByRecursion (λ p. MatchesByRun r p false) ps

  pub failed_push : (ps : List (Policy Program)) (p : Policy Program) → Failed ps → MatchesByRun r p false → Failed (ps ++ p ∷ [])
  failed_push [] p failed this = (this, tt)
  failed_push (x ∷ ps) p failed this = (failed.0, failed_push ps p failed.1 this)

  one_first : (ps qs : List (Policy Program)) (p : Policy Program) (i : ℕ) → Failed ps → MatchesByRun r p true
      → IsFirst r i (ps ++ p ∷ qs) (Some (i + length ps))
  one_first [] qs p i failed this = inl (this, ap Some (add-zero i))
  one_first (x ∷ ps) qs p i failed this =
      let count : (i + 1) + length ps ≡ i + length (x ∷ ps) = omega arith in
      inr (failed.0, subst (λ n. IsFirst r (i + 1) (ps ++ p ∷ qs) (Some n)) count (one_first ps qs p (i + 1) failed.1 this))

  pub none_first : (ps : List (Policy Program)) (i : ℕ) → Failed ps → IsFirst r i ps None
  none_first [] i failed = refl
  none_first (p ∷ ps) i failed = inr (failed.0, none_first ps (i + 1) failed.1)

  one_asks : (P : Program → Type 0) (ps qs : List (Policy Program)) (p : Policy Program) → Failed ps → Asks P r p
      → OnePolicyAsks P r (ps ++ p ∷ qs)
  one_asks P [] qs p failed this = inl this
  one_asks P (x ∷ ps) qs p failed this = inr (failed.0, one_asks P ps qs p failed.1 this)

  none_at : (ps qs : List (Policy Program)) (p : Policy Program) → HaveNoConditions (ps ++ p ∷ qs) → p.condition ≡ None
  none_at [] qs p none = none.0
  none_at (x ∷ ps) qs p none = none_at ps qs p none.1

  -- the policies before the present one, that one, and those after it
  module _ (list : List Token) (items : List NamedPolicy) (i : ℕ) (item : NamedPolicy) (within : i < length items) (is : item ≡ get_or items i item) where
    more : take (i + 1) items ≡ take i items ++ item ∷ []
    more = take_more items i item within ∙ ap (λ x. take i items ++ x ∷ []) (sym is)

    split : map (policy_view list) items ≡ map (policy_view list) (take i items) ++ (policy_view list) item ∷ map (policy_view list) (drop (i + 1) items)
    split =
        ap (map (policy_view list)) (sym (take-append-drop (i + 1) items) ∙ ap (λ xs. xs ++ drop (i + 1) items) more ∙ append_assoc (take i items) (item ∷ []) (drop (i + 1) items))
        ∙ map-append (policy_view list) (take i items) (item ∷ drop (i + 1) items)

    pub next_failed : Failed (map (policy_view list) (take i items)) → MatchesByRun r ((policy_view list) item) false
        → Failed (map (policy_view list) (take (i + 1) items))
    next_failed failed this =
        rw (ap (map (policy_view list)) more ∙ map-append (policy_view list) (take i items) (item ∷ []))
        (failed_push (map (policy_view list) (take i items)) ((policy_view list) item) failed this)

    pub this_first : Failed (map (policy_view list) (take i items)) → MatchesByRun r ((policy_view list) item) true
        → IsFirst r 0 (map (policy_view list) items) (Some i)
    this_first failed this =
        let count : length (map (policy_view list) (take i items)) ≡ i = length-map (take i items) (policy_view list) ∙ length-take-le i items (omega (arith, within)) in
        rw split (subst (λ n. IsFirst r 0 (map (policy_view list) (take i items) ++ (policy_view list) item ∷ map (policy_view list) (drop (i + 1) items)) (Some n))
        (zero-add _ ∙ count) (one_first (map (policy_view list) (take i items)) (map (policy_view list) (drop (i + 1) items)) ((policy_view list) item) 0 failed this))

    pub this_asks : (P : Program → Type 0) → Failed (map (policy_view list) (take i items)) → Asks P r ((policy_view list) item)
        → OnePolicyAsks P r (map (policy_view list) items)
    this_asks P failed this =
        rw split (one_asks P (map (policy_view list) (take i items)) (map (policy_view list) (drop (i + 1) items)) ((policy_view list) item) failed this)

    pub this_has_none : HaveNoConditions (map (policy_view list) items) → ((policy_view list) item).condition ≡ None
    this_has_none none =
        none_at (map (policy_view list) (take i items)) (map (policy_view list) (drop (i + 1) items)) ((policy_view list) item) (rw split at none)

-- running out of memory does not pass a bound
pub memory_is_other : {V : Type 0} (answer : Result V RunError) (x y : RunError) → answer ≡ Err x → x ≡ y
    → y ≡ RunError.Memory → answer ≡ Err RunError.OutOfSteps → ⊥
memory_is_other {V} answer x y is same memory out =
    let clash : ◌≡◌ {A = Result V RunError} (Err x) (Err RunError.OutOfSteps) = sym is ∙ out in absurd cc
