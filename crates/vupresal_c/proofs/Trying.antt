-- The filters of a set, which are tried in order.
use Rattle.std.proofs.Common.{◌≡◌, ◌∙◌, ◌+◌, ◌<◌, ◌≤◌, ◌⊎◌, ℕ, zero, suc, Bool, true, false, List, [], ◌∷◌, ◌++◌, Option, None, ap, arith, get_or, inl, inr, length, map, not, option_map, refl, subst, sym, take}
use Rattle.std.specs.List.{AllByRecursion}
use Rattle.std.proofs.lemmas.List.{length-map, map-append, take_more}
use Rattle.std.proofs.lemmas.Option.{slice_get-map, slice_get_read}
use Rattle.attributes.specs.Request.{RequestValue}
use Rattle.rbac_policy.specs.declared.filter.Admitted.{Admitted}
use Rattle.rbac_policy.specs.declared.filter.Verdict.{Verdict}
use Rattle.vupresal_c.specs.Decisions.{IsAnswer, decision_of}
use Rattle.vupresal_c.specs.Kept.{AsksForHeld, HeldFailsFor}
use Rattle.vupresal_c.specs.Sets.{IsSetAnswer, IsSetDecision, IsTried, LetsThrough, SetFails, set_decision_of}
use Rattle.vupresal_c.specs.declared.by_set.Decider.{Decider}
use Rattle.vupresal_c.specs.declared.fault.Fault.{Fault}
use Rattle.vupresal_c.specs.declared.fault.Fault.TheVariants.{Empty}
use Rattle.vupresal_c.proofs.Deciding.{allowed_of, decision_is}

-- what a test says that is turned round
pub is_false : (b : Bool) → not b ≡ true → b ≡ false
is_false true is = sym is
is_false false is = refl

pub is_true : (b : Bool) → not b ≡ false → b ≡ true
is_true true is = refl
is_true false is = sym is

module _ {X : Type 0} (f : X → Admitted) where
  take_map : (k : ℕ) (xs : List X) → map f (take k xs) ≡ take k (map f xs)
  take_map zero xs = refl
  take_map (suc k) [] = refl
  take_map (suc k) (x ∷ xs) = ap (λ ys. f x ∷ ys) (take_map k xs)

  -- without a request nothing is decided
  pub none_asked : (xs : List X) → SetFails (map f xs) None Empty
  none_asked [] = inl (refl, refl)
  none_asked (x ∷ xs) = inr (0, f x, (refl, tt), refl)

  -- nor without a filter
  pub none_tried : (xs : List X) (held : Option RequestValue) (i : ℕ) → length xs ≤ i → ((i ≡ 0) ⊎ (i < length xs)) → SetFails (map f xs) held Empty
  none_tried [] held i past at = inl (refl, refl)
  none_tried (x ∷ xs) held i past (inl first) = absurd (omega (arith, past, first))
  none_tried (x ∷ xs) held i past (inr inside) = absurd (omega (arith, past, inside))

  module _ (held : Option RequestValue) where
    -- the filters before this place let the request through
    abbrev pub Passed : ℕ → List X → Type 0
    Passed i xs = AllByRecursion (LetsThrough held) (map f (take i xs))

    passed_push : (filters : List Admitted) (a : Admitted) → AllByRecursion (LetsThrough held) filters → LetsThrough held a
        → AllByRecursion (LetsThrough held) (filters ++ a ∷ [])
    passed_push [] a all this = (this, tt)
    passed_push (b ∷ filters) a (one, all) this = (one, passed_push filters a all this)

    -- the filter at this place is tried
    module _ (xs : List X) (i : ℕ) (x : X) (within : i < length xs) (is : x ≡ get_or xs i x) (passed : Passed i xs) where
      tried : IsTried held (map f xs) i (f x)
      tried = (
        slice_get-map f xs i ∙ ap (option_map f) (slice_get_read xs (length xs) i x refl within is),
        subst (λ (filters : List Admitted). AllByRecursion (LetsThrough held) filters) (take_map i xs) passed,
      )

      more : map f (take (i + 1) xs) ≡ map f (take i xs) ++ f x ∷ []
      more = ap (map f) (take_more xs i x within ∙ ap (λ (y : X). take i xs ++ y ∷ []) (sym is)) ∙ map-append f (take i xs) (x ∷ [])

      -- it lets the request through, so the next is tried
      pub next_passed : (v : Verdict) → IsAnswer (AsksForHeld held) (f x) v → v.allowed ≡ true → Passed (i + 1) xs
      next_passed v answer lets =
          rw more (passed_push (map f (take i xs)) (f x) passed
          (decision_of v, decision_is (AsksForHeld held) (f x) v answer, allowed_of v.allowed v.matched ∙ lets))

      -- it refuses, or it is the last
      pub decides : (v : Verdict) → IsAnswer (AsksForHeld held) (f x) v → ((v.allowed ≡ false) ⊎ (i + 1 ≡ length xs))
          → IsSetAnswer (map f xs) held (record { number = i; verdict = v })
      decides v answer (inl refuses) = (f x, tried, answer, inl refuses)
      decides v answer (inr last) = (f x, tried, answer, inr (omega (arith, last, length-map xs f)))

      -- it has no decision
      pub has_none : (e : Fault) → HeldFailsFor held (f x) e → SetFails (map f xs) held e
      has_none e why = inr (i, f x, tried, why)

-- the decision of an answer
pub set_decision_is : (filters : List Admitted) (held : Option RequestValue) (d : Decider) → IsSetAnswer filters held d
    → IsSetDecision filters held (set_decision_of d)
set_decision_is filters held d (a, tried, answer, ends) =
    (a, tried, decision_is (AsksForHeld held) a d.verdict answer, rw (allowed_of d.verdict.allowed d.verdict.matched) ends)
