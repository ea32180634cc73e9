-- Limits without a fault are those that may be declared.
use Rattle.std.proofs.Common.{◌≡◌, ℕ, ◌≤◌, ◌==◌, ◌↔◌, nat_lt, true, false, cond, List, [], ◌∷◌, Option, Some, None, refl, arith}
use Rattle.std.proofs.lemmas.Bool.{eqb-true, ltb-true}
use Rattle.std.proofs.lemmas.Bool.Decides.{nat_tests}
use Rattle.std.specs.List.{AllByRecursion, cons_option, filter_map, slice_get}
use Rattle.attributes.specs.Limits.{AreLimits, LimitsValue, every_limit, first_fault, largest, limit_fault, limit_of}
use Rattle.attributes.specs.declared.limits.Limit.{Limit}
use Rattle.attributes.specs.declared.limits.LimitFault.{LimitFault}
use Rattle.attributes.specs.declared.limits.LimitFault.TheVariants.{Above, Zero}

-- a first element is missing where each gives none
none_each : {X Y : Type 0} (h : X → Option Y) (xs : List X)
    → (slice_get (filter_map h xs) 0 ≡ None) ↔ AllByRecursion (λ x. h x ≡ None) xs
none_each h [] = (λ e. tt, λ t. refl)
none_each h (x ∷ xs) = elim (h x) as (λ o.
    (slice_get (cons_option o (filter_map h xs)) 0 ≡ None)
    ↔ ((o ≡ None) × AllByRecursion (λ y. h y ≡ None) xs)) [
      | None ↦ let later = none_each h xs in (λ e. (refl, later.0 e), λ t. later.1 t.1)
      | Some y ↦ (
        λ e. absurd (let clash : Some y ≡ None = e in cc),
        λ t. absurd (let clash : Some y ≡ None = t.0 in cc),
      )
    ]

-- a test of 0, and one of another number
some : (n : ℕ) → n == 0 ≡ false → 1 ≤ n
some n h = grind (arith, nat_tests)

within : (n most : ℕ) → nat_lt most n ≡ false → n ≤ most
within n most h = grind (arith, nat_tests)

-- the two tests of a limit that is n where the greatest is `most`
none_tested : (zero above : LimitFault) (n most : ℕ)
    → (cond (n == 0) (Some zero) (cond (nat_lt most n) (Some above) None) ≡ None)
    ↔ ((1 ≤ n) × (n ≤ most))
none_tested zero above n most =
    elim (n == 0) as (λ b. n == 0 ≡ b
    → (cond b (Some zero) (cond (nat_lt most n) (Some above) None) ≡ None)
    ↔ ((1 ≤ n) × (n ≤ most))) [
      | true ↦ λ t. (
        λ e. absurd (let clash : Some zero ≡ None = e in cc),
        λ fits. absurd (let none : n ≡ 0 = eqb-true n 0 t in omega (arith, none, fits.0)),
      )
      | false ↦ λ t. elim (nat_lt most n) as (λ b. nat_lt most n ≡ b
          → (cond b (Some above) None ≡ None) ↔ ((1 ≤ n) × (n ≤ most))) [
            | true ↦ λ u. (
              λ e. absurd (let clash : Some above ≡ None = e in cc),
              λ fits. absurd (omega (arith, ltb-true most n u, fits.1)),
            )
            | false ↦ λ u. (λ e. (some n t, within n most u), λ fits. refl)
          ] refl
    ] refl

-- one limit
none_one : (limit : Limit) (n : ℕ)
    → (limit_fault limit n ≡ None) ↔ ((1 ≤ n) × (n ≤ limit_of limit largest))
none_one limit n = none_tested (Zero limit) (Above limit) n (limit_of limit largest)

-- all six
pub none_all : (l : LimitsValue) → (first_fault l ≡ None) ↔ AreLimits l
none_all l =
    let each = none_each (λ limit. limit_fault limit (limit_of limit l)) every_limit in (
      λ e limit. elim limit as (λ at. (1 ≤ limit_of at l) × (limit_of at l ≤ limit_of at largest)) [
        | Limit.Fields ↦ (none_one Limit.Fields l.fields).0 (each.0 e).0
        | Limit.Name ↦ (none_one Limit.Name l.name).0 (each.0 e).1.0
        | Limit.Value ↦ (none_one Limit.Value l.value).0 (each.0 e).1.1.0
        | Limit.Method ↦ (none_one Limit.Method l.method).0 (each.0 e).1.1.1.0
        | Limit.Target ↦ (none_one Limit.Target l.target).0 (each.0 e).1.1.1.1.0
        | Limit.Text ↦ (none_one Limit.Text l.text).0 (each.0 e).1.1.1.1.1.0
      ],
      λ are. each.1 (
        (none_one Limit.Fields l.fields).1 (are Limit.Fields),
        (
          (none_one Limit.Name l.name).1 (are Limit.Name),
          (
            (none_one Limit.Value l.value).1 (are Limit.Value),
            (
              (none_one Limit.Method l.method).1 (are Limit.Method),
              (
                (none_one Limit.Target l.target).1 (are Limit.Target),
                ((none_one Limit.Text l.text).1 (are Limit.Text), tt),
              ),
            ),
          ),
        ),
      ),
    )
