-- What holds of a value beside a result that may be a refusal.
use Rattle.std.proofs.Common.{◌≡◌, subst, sym}
use Rattle.std.specs.Prelude.{Result, Ok, Err, IfOk, IfErr}

module _ {T U E : Type 0} (first : T) (second : Result U E) where
  -- where both are there
  pub both_found : (r : Result (T × U) E) (P : T × U → Type 0) → IfOk r (λ pair. (pair.0 ≡ first) × (second ≡ Ok pair.1))
      → IfOk second (λ u. P (first, u)) → IfOk r P
  both_found (Ok pair) P found holds =
      let here : P (first, pair.1) = rw found.1 at holds in
      subst (λ x. P (x, pair.1)) (sym found.0) here
  both_found (Err e) P found holds = tt

  -- where the second is refused
  pub both_fault : (r : Result (T × U) E) (F : E → Type 0) → IfErr r (λ e. second ≡ Err e) → IfErr second F → IfErr r F
  both_fault (Ok pair) F fault bad = tt
  both_fault (Err e) F fault bad = rw fault at bad

module _ {T U E : Type 0} (value : T) (tested : Result U E) where
  -- where the value is kept
  pub kept_found : (r : Result T E) (P : T → Type 0) → IfOk r (λ it. it ≡ value) → IfErr tested (λ e. r ≡ Err e)
      → IfOk tested (λ u. P value) → IfOk r P
  kept_found (Err e) P found refused holds = tt
  kept_found (Ok it) P found refused holds = subst P (sym found) (held tested refused holds)
    where
      held : (t : Result U E) → IfErr t (λ e. Ok it ≡ Err e) → IfOk t (λ u. P value) → P value
      held (Ok u) refused holds = holds
      held (Err e) refused holds = absurd (let clash : Ok it ≡ Err e = refused in cc)

  -- where it is refused
  pub kept_fault : (r : Result T E) (F : E → Type 0) → IfErr r (λ e. tested ≡ Err e) → IfErr tested F → IfErr r F
  kept_fault (Ok it) F fault bad = tt
  kept_fault (Err e) F fault bad = rw fault at bad
