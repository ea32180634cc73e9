-- Locals by the number of those outside.
use Rattle.std.proofs.Common.{◌≡◌, nat_eq, true, false, ℕ, zero, suc, ◌+◌, ◌-◌, ◌<◌, ◌≤◌, List, [], ◌∷◌, ◌++◌, length, get_or, refl, ap, ◌∙◌, Bor, arith}
use Rattle.std.specs.Prelude.{Some, None}
use Rattle.std.proofs.lemmas.Bool.Decides.{nat_tests}
use Rattle.cel_types.specs.TypedMeaning.{local_at}
use Rattle.cel_costs.specs.Costs.{known}
use Rattle.cel_costs.specs.Sizes.{Size, Flat}
use Rattle.cost_bound.specs.private.ScopeView.{scope_of, scope_view, sizes_onto}
use Rattle.cost_bound.specs.private.SizeView.{size_view}
use Rattle.cost_bound.specs.declared.size.ValueSize.{ValueSize}

other : (n m : ℕ) → n < m → nat_eq m n ≡ false
other n m h = let differ : m ≡ n → ⊥ = λ same. omega (arith, same) in grind (arith, nat_tests)

itself : (n : ℕ) → nat_eq n n ≡ true
itself n = grind (arith, nat_tests)

less : (n m : ℕ) → n < m → nat_eq n m ≡ false
less n m h = let differ : n ≡ m → ⊥ = λ same. omega (arith, same) in grind (arith, nat_tests)

size_count : (outer : List Size) (xs : List (Bor ValueSize)) → length (sizes_onto outer xs) ≡ length outer + length xs
size_count outer [] = omega arith
size_count outer (x ∷ xs) = let more = size_count (size_view x.now ∷ outer) xs in omega arith

none_there : (w : ℕ) (ss : List Size) → length ss ≤ w → local_at w ss ≡ None
none_there w [] h = refl
none_there w (s ∷ ss) h = rw (other (length ss) w (omega arith)) (none_there w ss (omega arith))

still_there : (w : ℕ) (outer : List Size) (xs : List (Bor ValueSize)) → w < length outer
    → local_at w (sizes_onto outer xs) ≡ local_at w outer
still_there w outer [] h = refl
still_there w outer (x ∷ xs) h =
    still_there w (size_view x.now ∷ outer) xs (omega arith) ∙ rw (less w (length outer) h) refl

found_there : (i : ℕ) (outer : List Size) (xs : List (Bor ValueSize)) (d : Bor ValueSize) → i < length xs
    → local_at (length outer + i) (sizes_onto outer xs) ≡ Some (size_view (get_or xs i d).now)
found_there i outer [] d h = absurd (omega arith)
found_there zero outer (x ∷ xs) d h =
    let at : length outer + zero ≡ length outer = omega arith in
    rw at (still_there (length outer) (size_view x.now ∷ outer) xs (omega arith)
    ∙ rw (itself (length outer)) refl)
found_there (suc i) outer (x ∷ xs) d h =
    let at : length outer + suc i ≡ suc (length outer) + i = omega arith in
    rw at (found_there i (size_view x.now ∷ outer) xs d (omega arith))

-- the locals of two lists are those of both in one
pub sizes_both : (outer : List Size) (xs ys : List (Bor ValueSize))
    → sizes_onto outer (xs ++ ys) ≡ sizes_onto (sizes_onto outer xs) ys
sizes_both outer [] ys = refl
sizes_both outer (x ∷ xs) ys = sizes_both (size_view x.now ∷ outer) xs ys

pub local_outside : (w : ℕ) (os xs : List (Bor ValueSize)) (d : Bor ValueSize) → w < length os
    → size_view (get_or os w d).now ≡ known (local_at w (scope_of os xs))
local_outside w os xs d h =
    let counted = size_count [] os in
    let whole : w ≡ length {A = Size} [] + w = omega arith in
    let there : local_at w (scope_of os xs) ≡ Some (size_view (get_or os w d).now) =
    still_there w (scope_view os) xs (omega arith)
    ∙ (ap (λ k. local_at k (scope_view os)) whole ∙ found_there w [] os d h) in
    rw there refl

pub local_inside : (w : ℕ) (os xs : List (Bor ValueSize)) (d : Bor ValueSize) → length os ≤ w
    → w - length os < length xs → size_view (get_or xs (w - length os) d).now ≡ known (local_at w (scope_of os xs))
local_inside w os xs d h fits =
    let counted = size_count [] os in
    let whole : w ≡ length (scope_view os) + (w - length os) = omega arith in
    let there : local_at w (scope_of os xs) ≡ Some (size_view (get_or xs (w - length os) d).now) =
    ap (λ k. local_at k (scope_of os xs)) whole ∙ found_there (w - length os) (scope_view os) xs d fits in
    rw there refl

pub local_beyond : (w : ℕ) (os xs : List (Bor ValueSize)) → length os ≤ w → length xs ≤ w - length os
    → Flat ≡ known (local_at w (scope_of os xs))
local_beyond w os xs h fits =
    let outside = size_count [] os in
    let counted = size_count (scope_view os) xs in
    let none : local_at w (scope_of os xs) ≡ None = none_there w (scope_of os xs) (omega arith) in
    rw none refl
