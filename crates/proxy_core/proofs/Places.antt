-- Connections in their places.
use Rattle.std.proofs.Common.{◌≡◌, ℕ, zero, suc, ◌<◌, ◌≤◌, Option, Some, None, List, [], ◌∷◌, length, set, refl, ap, arith}
use Rattle.std.specs.Prelude.{slice_get}
use Rattle.http_front.specs.Front.{FrontValue}
use Rattle.proxy_core.specs.Step.{front_in, nobody}

pub set_same : (xs : List (Option FrontValue)) (k : ℕ) (x : Option FrontValue) → k < length xs
    → front_in (slice_get (set xs k x) k) ≡ x
set_same [] k x within = absurd (omega arith)
set_same (y ∷ xs) zero x within = refl
set_same (y ∷ xs) (suc k) x within = set_same xs k x (omega arith)

pub set_none : (xs : List (Option FrontValue)) (k : ℕ) → front_in (slice_get (set xs k None) k) ≡ None
set_none [] k = refl
set_none (y ∷ xs) zero = refl
set_none (y ∷ xs) (suc k) = set_none xs k

pub set_other : (xs : List (Option FrontValue)) (k j : ℕ) (x : Option FrontValue) → (k ≡ j → ⊥)
    → front_in (slice_get (set xs k x) j) ≡ front_in (slice_get xs j)
set_other [] k j x other = refl
set_other (y ∷ xs) zero zero x other = absurd (other refl)
set_other (y ∷ xs) zero (suc j) x other = refl
set_other (y ∷ xs) (suc k) zero x other = refl
set_other (y ∷ xs) (suc k) (suc j) x other = set_other xs k j x (λ same. other (ap (λ (n : ℕ). suc n) same))

-- an open connection is in one of the places
pub within : (xs : List (Option FrontValue)) (k : ℕ) (f : FrontValue) → front_in (slice_get xs k) ≡ Some f
    → k < length xs
within [] k f is = absurd cc
within (y ∷ xs) zero f is = omega arith
within (y ∷ xs) (suc k) f is = let more = within xs k f is in omega (arith, more)

pub past_none : (xs : List (Option FrontValue)) (k : ℕ) → length xs ≤ k → front_in (slice_get xs k) ≡ None
past_none [] k far = refl
past_none (y ∷ xs) zero far = absurd (omega arith)
past_none (y ∷ xs) (suc k) far = past_none xs k (omega arith)

-- at the start none is open
pub none_there : (n k : ℕ) → front_in (slice_get (nobody n) k) ≡ None
none_there zero k = refl
none_there (suc n) zero = refl
none_there (suc n) (suc k) = none_there n k

pub nobody_length : (n : ℕ) → length (nobody n) ≡ n
nobody_length zero = refl
nobody_length (suc n) = ap (λ (m : ℕ). suc m) (nobody_length n)
