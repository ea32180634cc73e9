-- The earliest of times, with one time more at their end.
use Rattle.std.proofs.Common.{◌≡◌, ◌≤◌, ◌<◌, ◌++◌, ◌⊎◌, inl, inr, ℕ, suc, zero, List, [], ◌∷◌, Option, Some, None, get_or, length, refl, arith}
use Rattle.serve_loop.specs.Earliest.{IsLeast}

-- the last one is the new one
pub last_is : (times : List (Option ℕ)) (time : Option ℕ) → get_or (times ++ time ∷ []) (length times) None ≡ time
last_is [] time = refl
last_is (x ∷ xs) time = last_is xs time

-- the others stay
pub stays : (times : List (Option ℕ)) (time : Option ℕ) (k t : ℕ) → get_or times k None ≡ Some t
    → get_or (times ++ time ∷ []) k None ≡ Some t
stays [] time k t is = let clash : None ≡ Some t = is in absurd cc
stays (x ∷ xs) time zero t is = is
stays (x ∷ xs) time (suc k) t is = stays xs time k t is

-- each time is one of the others, or the new one
pub is_either : (times : List (Option ℕ)) (time : Option ℕ) (k t : ℕ) → get_or (times ++ time ∷ []) k None ≡ Some t
    → (get_or times k None ≡ Some t) ⊎ (time ≡ Some t)
is_either [] time zero t is = inr is
is_either [] time (suc k) t is = inl is
is_either (x ∷ xs) time zero t is = inl is
is_either (x ∷ xs) time (suc k) t is = is_either xs time k t is

-- no time and no new one
none_yet : (times : List (Option ℕ)) → ((k : ℕ) → get_or times k None ≡ None) → (k : ℕ) → get_or (times ++ None ∷ []) k None ≡ None
none_yet [] none zero = refl
none_yet [] none (suc k) = refl
none_yet (x ∷ xs) none zero = none zero
none_yet (x ∷ xs) none (suc k) = none_yet xs (λ j. none (suc j)) k

-- the earliest stays where no time is added
pub least_still : (times : List (Option ℕ)) (found : Option (ℕ × ℕ)) → IsLeast times found → IsLeast (times ++ None ∷ []) found
least_still times None none = none_yet times none
least_still times (Some (k, t)) (at, least) = (
  stays times None k t at,
  λ j u is. elim (is_either times None j u is) [
    | inl before ↦ least j u before
    | inr new ↦ (let clash : None ≡ Some u = new in absurd cc)
  ],
)

-- the first time is the earliest
pub least_first : (times : List (Option ℕ)) (t : ℕ) → IsLeast times None → IsLeast (times ++ Some t ∷ []) (Some (length times, t))
least_first times t none = (
  last_is times (Some t),
  λ j u is. elim (is_either times (Some t) j u is) [
    | inl before ↦ (let clash : None ≡ Some u = rw (← none j) before in absurd cc)
    | inr new ↦ (let same : t ≡ u = cc in omega arith)
  ],
)

module _ (times : List (Option ℕ)) (at least t : ℕ) (found : IsLeast times (Some (at, least))) where
  -- an earlier one is the earliest
  pub least_new : t < least → IsLeast (times ++ Some t ∷ []) (Some (length times, t))
  least_new earlier = (
    last_is times (Some t),
    λ j u is. elim (is_either times (Some t) j u is) [
      | inl before ↦ (let above : least ≤ u = found.1 j u before in omega arith)
      | inr new ↦ (let same : t ≡ u = cc in omega arith)
    ],
  )

  -- a later one is not
  pub least_old : least ≤ t → IsLeast (times ++ Some t ∷ []) (Some (at, least))
  least_old later = (
    stays times (Some t) at least found.0,
    λ j u is. elim (is_either times (Some t) j u is) [
      | inl before ↦ found.1 j u before
      | inr new ↦ (let same : t ≡ u = cc in omega arith)
    ],
  )
