-- The results of measuring an expression: its size, what its cost leaves of the budget, and what its visits leave of
-- theirs. The result is a refusal if one of the two is too small.
use Rattle.std.specs.Prelude.{ℕ, ◌≡◌, ◌<◌, ◌+◌, ◌-◌, ◌⊎◌, List, [], ◌∷◌, ◌++◌}
use Rattle.proto_wire.specs.declared.refusal.Refusal.{Refusal}
use Rattle.proto_wire.specs.declared.refusal.Refusal.TheVariants.{TooCostly, TooLarge}
use Rattle.attributes.specs.Limits.{LimitsValue}
use Rattle.cel_overload.specs.declared.overload.Overload.{Overload}
use Rattle.cel_ops.specs.declared.operation.Operation.TheVariants as operations
use Rattle.cel_overload.specs.declared.overload.Overload.TheVariants as overloads
use Rattle.cel_types.specs.Elaborated.{TypedTree, typed_constant, typed_local, typed_attribute, typed_field, typed_has, typed_call, typed_list, typed_map, typed_loop, TypedTrees, kind}
use Rattle.cel_types.specs.View.{TypedParts}
use Rattle.cel_value.specs.Types.{ValueType}
use Rattle.cel_costs.specs.Sizes.{Size, most_of}
use Rattle.cel_costs.specs.Costs.{charge_at, cost_of, costs_of, grown, size_of, sizes_of, variable_sizes}
use Rattle.cel_costs.specs.Visits.{turns_visits, visits_of, visits_of_each, weight}
use Rattle.cost_bound.specs.private.ScopeView.{scope_of, scope_view}
use Rattle.cost_bound.specs.private.SizeView.{size_view, variables_view}
use Rattle.cost_bound.specs.declared.budget.Budget.{Budget}
use Rattle.cost_bound.specs.declared.measured.Measured.{Measured}
use Rattle.cost_bound.specs.declared.measuring.Measuring.{Measuring}
use Rattle.cost_bound.specs.declared.measuring.Turns.{Turns}

-- the refusal of a cost above the budget
abbrev pub CostsMore : (cost left : ℕ) → Refusal → Type 0
CostsMore cost left e = (e ≡ TooCostly) × (left < cost)

-- the refusal of visits above their limit
abbrev pub VisitsMore : (count visits : ℕ) → Refusal → Type 0
VisitsMore count visits e = (e ≡ TooLarge) × (visits < count)

-- the refusal of either
abbrev pub Exceeds : (cost count : ℕ) → Budget → Refusal → Type 0
Exceeds cost count left e = CostsMore cost left.steps e ⊎ VisitsMore count left.visits e

-- the charge of a call without its operands, less 1: two jumps for `&&` and `||`, one instruction
-- otherwise. Not for a conditional of three operands
abbrev pub call_part : Overload → List ValueType → List Size → ℕ
call_part (overloads.Operate operations.And) ts (a ∷ b ∷ []) = 1
call_part (overloads.Operate operations.Or) ts (a ∷ b ∷ []) = 1
call_part o ts sizes = charge_at o ts sizes - 1

-- the step's size in one turn, by the accumulator's size before it
abbrev pub next_size : TypedParts → LimitsValue → (each : List Size) → List Size → Size → Size
next_size p l each sizes s = size_of p.step l (each ++ s ∷ sizes)

-- the cost of one turn, by the accumulator's size before it
abbrev pub turn_cost : TypedParts → LimitsValue → (each : List Size) → List Size → Size → ℕ
turn_cost p l each sizes s =
    cost_of p.condition l (each ++ s ∷ sizes) + cost_of p.step l (each ++ s ∷ sizes) + 4

-- the visits of one turn, by the accumulator's size before it
abbrev pub turn_visits : TypedParts → LimitsValue → (each : List Size) → List Size → Size → ℕ
turn_visits p l each sizes s =
    weight (kind p.init) + visits_of p.condition l (each ++ s ∷ sizes) + visits_of p.step l (each ++ s ∷ sizes)

-- the visits of a loop's parts
abbrev pub loop_visits : TypedParts → LimitsValue → List Size → ℕ
loop_visits p l sizes =
    let n = most_of (size_of p.range l sizes) in
    let each = variable_sizes p.variables (size_of p.range l sizes) in
    visits_of p.range l sizes + visits_of p.init l sizes
    + turns_visits (next_size p l each sizes) (turn_visits p l each sizes) n (size_of p.init l sizes)
    + visits_of p.result l (grown (next_size p l each sizes) n (size_of p.init l sizes) ∷ sizes)

-- the visits of an expression's parts
abbrev pub visits_inside : TypedTree → LimitsValue → List Size → ℕ
visits_inside (typed_constant t v) l sizes = 0
visits_inside (typed_local t outside) l sizes = 0
visits_inside (typed_attribute t a) l sizes = 0
visits_inside (typed_field t on name) l sizes = visits_of on l sizes
visits_inside (typed_has t on name) l sizes = visits_of on l sizes
visits_inside (typed_call t o operands) l sizes = visits_of_each operands l sizes
visits_inside (typed_list t elements) l sizes = visits_of_each elements l sizes
visits_inside (typed_map t pairs) l sizes = visits_of_each pairs l sizes
visits_inside (typed_loop t vars range init condition step result) l sizes =
    loop_visits (record {
      variables = vars;
      range = range;
      init = init;
      condition = condition;
      step = step;
      result = result;
    }) l sizes

-- what is found of an expression of this size, this cost and these visits
abbrev pub Finds : Size → (cost count : ℕ) → Budget → Measured → Type 0
Finds size cost count left m =
    (size_view m.size ≡ size) × (left.steps ≡ cost + m.left.steps) × (left.visits ≡ count + m.left.visits)

-- the sizes of the locals in scope
abbrev pub scope_in : Measuring → List Size
scope_in m = scope_of m.around.locals.now m.inner.now

-- the size of an expression, by the limits and the locals in scope
abbrev pub size_in : Measuring → TypedTree → Size
size_in m e = size_of e m.around.limits.now (scope_in m)

-- its cost, by the same
abbrev pub cost_in : Measuring → TypedTree → ℕ
cost_in m e = cost_of e m.around.limits.now (scope_in m)

-- its visits, by the same
abbrev pub visits_in : Measuring → TypedTree → ℕ
visits_in m e = visits_of e m.around.limits.now (scope_in m)

-- the visits of its parts
abbrev pub visits_inside_in : Measuring → TypedTree → ℕ
visits_inside_in m e = visits_inside e m.around.limits.now (scope_in m)

-- the visits of a loop's parts
abbrev pub loop_visits_in : Measuring → TypedParts → ℕ
loop_visits_in m p = loop_visits p m.around.limits.now (scope_in m)

-- the sizes of expressions, in order
abbrev pub sizes_in : Measuring → TypedTrees → List Size
sizes_in m es = sizes_of es m.around.limits.now (scope_in m)

-- their costs, in order
abbrev pub costs_in : Measuring → TypedTrees → List ℕ
costs_in m es = costs_of es m.around.limits.now (scope_in m)

-- their visits together
abbrev pub visits_in_each : Measuring → TypedTrees → ℕ
visits_in_each m es = visits_of_each es m.around.limits.now (scope_in m)

-- the size of a loop's step, by the accumulator's size before it
abbrev pub next_in : TypedParts → Turns → Size → Size
next_in p t = next_size p t.around.limits.now (variables_view t.each.now)
    (scope_view t.around.locals.now)

-- the cost of one turn of the loop, by the same
abbrev pub turn_in : TypedParts → Turns → Size → ℕ
turn_in p t = turn_cost p t.around.limits.now (variables_view t.each.now)
    (scope_view t.around.locals.now)

-- the visits of one turn, by the same
abbrev pub turn_visits_in : TypedParts → Turns → Size → ℕ
turn_visits_in p t = turn_visits p t.around.limits.now (variables_view t.each.now)
    (scope_view t.around.locals.now)
