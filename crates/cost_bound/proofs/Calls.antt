-- What a call costs: its operands, and one and a part besides.
use Rattle.std.proofs.Common.{◌≡◌, ℕ, ◌+◌, ◌-◌, ◌≤◌, List, [], ◌∷◌, length, refl, ap, ◌∙◌, arith}
use Rattle.cel_overload.specs.declared.overload.Overload.{Overload}
use Rattle.cel_ops.specs.declared.operation.Operation.TheVariants as operations
use Rattle.cel_overload.specs.declared.overload.Overload.TheVariants as overloads
use Rattle.cel_value.specs.Types.{ValueType}
use Rattle.cel_costs.specs.Sizes.{Size, Flat}
use Rattle.cel_costs.specs.Costs.{call_cost, call_size, charge_at, total}
use Rattle.cost_bound.specs.private.Measuring.{call_part}
pub use Rattle.cel_costs.proofs.Charged.{charge_some}

-- a charge is one and the rest of it
one_more : (n t : ℕ) → 1 ≤ n → t + n ≡ t + (1 + (n - 1))
one_more n t h = omega arith

one_at_most : (n : ℕ) → n ≤ 1 + (n - 1)
one_at_most n = omega arith

-- any call but a conditional of three costs its operands, one, and its part
pub call_costs : (o : Overload) (ts : List ValueType) (costs : List ℕ) (sizes : List Size)
    → length costs ≡ length sizes → (o ≡ overloads.Conditional → length costs ≡ 3 → ⊥)
    → call_cost o ts costs sizes ≡ total costs + (1 + call_part o ts sizes)
call_costs (overloads.Operate operations.And) ts [] [] e h = omega arith
call_costs (overloads.Operate operations.And) ts [] (s ∷ []) e h = absurd (omega arith)
call_costs (overloads.Operate operations.And) ts [] (s ∷ t ∷ []) e h = absurd (omega arith)
call_costs (overloads.Operate operations.And) ts [] (s ∷ t ∷ u ∷ us) e h = absurd (omega arith)
call_costs (overloads.Operate operations.And) ts (a ∷ []) [] e h = absurd (omega arith)
call_costs (overloads.Operate operations.And) ts (a ∷ []) (s ∷ []) e h = omega arith
call_costs (overloads.Operate operations.And) ts (a ∷ []) (s ∷ t ∷ []) e h = absurd (omega arith)
call_costs (overloads.Operate operations.And) ts (a ∷ []) (s ∷ t ∷ u ∷ us) e h = absurd (omega arith)
call_costs (overloads.Operate operations.And) ts (a ∷ b ∷ []) [] e h = absurd (omega arith)
call_costs (overloads.Operate operations.And) ts (a ∷ b ∷ []) (s ∷ []) e h = absurd (omega arith)
call_costs (overloads.Operate operations.And) ts (a ∷ b ∷ []) (s ∷ t ∷ []) e h = omega arith
call_costs (overloads.Operate operations.And) ts (a ∷ b ∷ []) (s ∷ t ∷ u ∷ us) e h = absurd (omega arith)
call_costs (overloads.Operate operations.And) ts (a ∷ b ∷ c ∷ cs) [] e h = absurd (omega arith)
call_costs (overloads.Operate operations.And) ts (a ∷ b ∷ c ∷ cs) (s ∷ []) e h = absurd (omega arith)
call_costs (overloads.Operate operations.And) ts (a ∷ b ∷ c ∷ cs) (s ∷ t ∷ []) e h = absurd (omega arith)
call_costs (overloads.Operate operations.And) ts (a ∷ b ∷ c ∷ cs) (s ∷ t ∷ u ∷ us) e h = omega arith
call_costs (overloads.Operate operations.Or) ts [] [] e h = omega arith
call_costs (overloads.Operate operations.Or) ts [] (s ∷ []) e h = absurd (omega arith)
call_costs (overloads.Operate operations.Or) ts [] (s ∷ t ∷ []) e h = absurd (omega arith)
call_costs (overloads.Operate operations.Or) ts [] (s ∷ t ∷ u ∷ us) e h = absurd (omega arith)
call_costs (overloads.Operate operations.Or) ts (a ∷ []) [] e h = absurd (omega arith)
call_costs (overloads.Operate operations.Or) ts (a ∷ []) (s ∷ []) e h = omega arith
call_costs (overloads.Operate operations.Or) ts (a ∷ []) (s ∷ t ∷ []) e h = absurd (omega arith)
call_costs (overloads.Operate operations.Or) ts (a ∷ []) (s ∷ t ∷ u ∷ us) e h = absurd (omega arith)
call_costs (overloads.Operate operations.Or) ts (a ∷ b ∷ []) [] e h = absurd (omega arith)
call_costs (overloads.Operate operations.Or) ts (a ∷ b ∷ []) (s ∷ []) e h = absurd (omega arith)
call_costs (overloads.Operate operations.Or) ts (a ∷ b ∷ []) (s ∷ t ∷ []) e h = omega arith
call_costs (overloads.Operate operations.Or) ts (a ∷ b ∷ []) (s ∷ t ∷ u ∷ us) e h = absurd (omega arith)
call_costs (overloads.Operate operations.Or) ts (a ∷ b ∷ c ∷ cs) [] e h = absurd (omega arith)
call_costs (overloads.Operate operations.Or) ts (a ∷ b ∷ c ∷ cs) (s ∷ []) e h = absurd (omega arith)
call_costs (overloads.Operate operations.Or) ts (a ∷ b ∷ c ∷ cs) (s ∷ t ∷ []) e h = absurd (omega arith)
call_costs (overloads.Operate operations.Or) ts (a ∷ b ∷ c ∷ cs) (s ∷ t ∷ u ∷ us) e h = omega arith
call_costs overloads.Conditional ts [] sizes e h = omega arith
call_costs overloads.Conditional ts (a ∷ []) sizes e h = omega arith
call_costs overloads.Conditional ts (a ∷ b ∷ []) sizes e h = omega arith
call_costs overloads.Conditional ts (a ∷ b ∷ c ∷ d ∷ cs) sizes e h = omega arith
call_costs overloads.Conditional ts (a ∷ b ∷ c ∷ []) sizes e h = absurd (h refl (omega arith))
call_costs (overloads.Operate operations.Not) ts costs sizes e h = one_more (charge_at (overloads.Operate operations.Not) ts sizes) (total costs) (charge_some (overloads.Operate operations.Not) ts sizes)
call_costs (overloads.Operate operations.NotStrictlyFalse) ts costs sizes e h = one_more (charge_at (overloads.Operate operations.NotStrictlyFalse) ts sizes) (total costs) (charge_some (overloads.Operate operations.NotStrictlyFalse) ts sizes)
call_costs (overloads.Operate (operations.Compare op)) ts costs sizes e h = one_more (charge_at (overloads.Operate (operations.Compare op)) ts sizes) (total costs) (charge_some (overloads.Operate (operations.Compare op)) ts sizes)
call_costs (overloads.Operate (operations.Arithmetic op)) ts costs sizes e h = one_more (charge_at (overloads.Operate (operations.Arithmetic op)) ts sizes) (total costs) (charge_some (overloads.Operate (operations.Arithmetic op)) ts sizes)
call_costs (overloads.Operate operations.Concat) ts costs sizes e h = one_more (charge_at (overloads.Operate operations.Concat) ts sizes) (total costs) (charge_some (overloads.Operate operations.Concat) ts sizes)
call_costs (overloads.Operate operations.Negate) ts costs sizes e h = one_more (charge_at (overloads.Operate operations.Negate) ts sizes) (total costs) (charge_some (overloads.Operate operations.Negate) ts sizes)
call_costs (overloads.Operate operations.ListIndex) ts costs sizes e h = one_more (charge_at (overloads.Operate operations.ListIndex) ts sizes) (total costs) (charge_some (overloads.Operate operations.ListIndex) ts sizes)
call_costs (overloads.Operate operations.MapIndex) ts costs sizes e h = one_more (charge_at (overloads.Operate operations.MapIndex) ts sizes) (total costs) (charge_some (overloads.Operate operations.MapIndex) ts sizes)
call_costs (overloads.Operate operations.InList) ts costs sizes e h = one_more (charge_at (overloads.Operate operations.InList) ts sizes) (total costs) (charge_some (overloads.Operate operations.InList) ts sizes)
call_costs (overloads.Operate operations.InMap) ts costs sizes e h = one_more (charge_at (overloads.Operate operations.InMap) ts sizes) (total costs) (charge_some (overloads.Operate operations.InMap) ts sizes)
call_costs (overloads.Operate operations.Size) ts costs sizes e h = one_more (charge_at (overloads.Operate operations.Size) ts sizes) (total costs) (charge_some (overloads.Operate operations.Size) ts sizes)
call_costs (overloads.Operate (operations.Convert kind)) ts costs sizes e h = one_more (charge_at (overloads.Operate (operations.Convert kind)) ts sizes) (total costs) (charge_some (overloads.Operate (operations.Convert kind)) ts sizes)
call_costs (overloads.Operate (operations.TestText test)) ts costs sizes e h = one_more (charge_at (overloads.Operate (operations.TestText test)) ts sizes) (total costs) (charge_some (overloads.Operate (operations.TestText test)) ts sizes)

-- a charge is one and its part at most
pub part_covers : (o : Overload) (ts : List ValueType) (sizes : List Size)
    → charge_at o ts sizes ≤ 1 + call_part o ts sizes
part_covers (overloads.Operate operations.And) ts [] = omega arith
part_covers (overloads.Operate operations.And) ts (s ∷ []) = omega arith
part_covers (overloads.Operate operations.And) ts (s ∷ t ∷ []) = omega arith
part_covers (overloads.Operate operations.And) ts (s ∷ t ∷ u ∷ us) = omega arith
part_covers (overloads.Operate operations.Or) ts [] = omega arith
part_covers (overloads.Operate operations.Or) ts (s ∷ []) = omega arith
part_covers (overloads.Operate operations.Or) ts (s ∷ t ∷ []) = omega arith
part_covers (overloads.Operate operations.Or) ts (s ∷ t ∷ u ∷ us) = omega arith
part_covers (overloads.Operate operations.Not) ts sizes = omega arith
part_covers (overloads.Operate operations.NotStrictlyFalse) ts sizes = omega arith
part_covers overloads.Conditional ts sizes = omega arith
part_covers (overloads.Operate (operations.Compare op)) ts sizes = one_at_most (charge_at (overloads.Operate (operations.Compare op)) ts sizes)
part_covers (overloads.Operate (operations.Arithmetic op)) ts sizes = omega arith
part_covers (overloads.Operate operations.Concat) ts sizes = one_at_most (charge_at (overloads.Operate operations.Concat) ts sizes)
part_covers (overloads.Operate operations.Negate) ts sizes = omega arith
part_covers (overloads.Operate operations.ListIndex) ts sizes = omega arith
part_covers (overloads.Operate operations.MapIndex) ts sizes = one_at_most (charge_at (overloads.Operate operations.MapIndex) ts sizes)
part_covers (overloads.Operate operations.InList) ts sizes = one_at_most (charge_at (overloads.Operate operations.InList) ts sizes)
part_covers (overloads.Operate operations.InMap) ts sizes = one_at_most (charge_at (overloads.Operate operations.InMap) ts sizes)
part_covers (overloads.Operate operations.Size) ts sizes = one_at_most (charge_at (overloads.Operate operations.Size) ts sizes)
part_covers (overloads.Operate (operations.Convert kind)) ts sizes = one_at_most (charge_at (overloads.Operate (operations.Convert kind)) ts sizes)
part_covers (overloads.Operate (operations.TestText test)) ts sizes = one_at_most (charge_at (overloads.Operate (operations.TestText test)) ts sizes)

-- a call of no operands has no part, and gives no size
none_of : (o : Overload) (ts : List ValueType) → (call_size o [] ≡ Flat) × (call_part o ts [] ≡ 0)
none_of (overloads.Operate operations.Size) [] = (refl, refl)
none_of (overloads.Operate operations.Size) (t ∷ []) = (refl, refl)
none_of (overloads.Operate operations.Size) (t ∷ k ∷ ts) = (refl, refl)
none_of _ ts = (refl, refl)

-- nor does one of three or more, except a conditional of three
many_of : (o : Overload) (ts : List ValueType) (s t u : Size) (us : List Size) → (o ≡ overloads.Conditional → us ≡ [] → ⊥)
    → (call_size o (s ∷ t ∷ u ∷ us) ≡ Flat) × (call_part o ts (s ∷ t ∷ u ∷ us) ≡ 0)
many_of overloads.Conditional ts s t u [] h = absurd (h refl refl)
many_of overloads.Conditional ts s t u (v ∷ vs) h = (refl, refl)
many_of (overloads.Operate operations.Size) [] s t u us h = (refl, refl)
many_of (overloads.Operate operations.Size) (k ∷ []) s t u us h = (refl, refl)
many_of (overloads.Operate operations.Size) (k ∷ j ∷ ts) s t u us h = (refl, refl)
many_of _ ts s t u us h = (refl, refl)

no_part : (o : Overload) (ts : List ValueType) (sizes : List Size) → (length sizes ≡ 1 → ⊥) → (length sizes ≡ 2 → ⊥)
    → (o ≡ overloads.Conditional → length sizes ≡ 3 → ⊥) → (call_size o sizes ≡ Flat) × (call_part o ts sizes ≡ 0)
no_part o ts [] one two three = none_of o ts
no_part o ts (s ∷ []) one two three = absurd (one refl)
no_part o ts (s ∷ t ∷ []) one two three = absurd (two refl)
no_part o ts (s ∷ t ∷ u ∷ us) one two three =
    many_of o ts s t u us (λ is none. absurd (three is (ap (λ vs. length (s ∷ t ∷ u ∷ vs)) none)))

-- so it costs its operands and one
pub others_of : (o : Overload) (ts : List ValueType) (costs : List ℕ) (sizes : List Size) → length costs ≡ length sizes
    → (length costs ≡ 1 → ⊥) → (length costs ≡ 2 → ⊥) → (o ≡ overloads.Conditional → length costs ≡ 3 → ⊥)
    → (call_size o sizes ≡ Flat) × (call_cost o ts costs sizes ≡ total costs + 1)
others_of o ts costs sizes same one two three =
    let none = no_part o ts sizes (λ e. one (same ∙ e)) (λ e. two (same ∙ e)) (λ is e. three is (same ∙ e)) in
    (none.0, call_costs o ts costs sizes same three ∙ ap (λ part. total costs + (1 + part)) none.1)
