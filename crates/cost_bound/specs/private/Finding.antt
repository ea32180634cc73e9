-- What measuring finds of each kind of expression, and how it is refused.
use Rattle.std.specs.Prelude.{ℕ, ◌+◌, List, length}
use Rattle.proto_wire.specs.declared.refusal.Refusal.{Refusal}
use Rattle.cel_overload.specs.declared.overload.Overload.{Overload}
use Rattle.cel_types.specs.Elaborated.{TypedTree, TypedTrees, kinds}
use Rattle.cel_types.specs.View.{TypedParts, loop_of}
use Rattle.cel_value.specs.Types.{ValueType}
use Rattle.cel_costs.specs.Costs.{call_cost, call_size, cost_of, field_cost, grown, list_size, map_cost, map_size, size_of, total, turns_cost, value_size}
use Rattle.cel_costs.specs.Sizes.{Size, Flat, join}
use Rattle.cel_costs.specs.Visits.{turns_visits}
use Rattle.cost_bound.specs.private.Measuring.{Exceeds, Finds, cost_in, costs_in, loop_visits, loop_visits_in, next_in, size_in, sizes_in, turn_in, turn_visits_in, visits_in, visits_in_each, visits_inside_in}
use Rattle.cost_bound.specs.private.ScopeView.{scope_view}
use Rattle.cost_bound.specs.private.SizeView.{size_view}
use Rattle.cost_bound.specs.declared.budget.Budget.{Budget}
use Rattle.cost_bound.specs.declared.measured.Measured.{Measured}
use Rattle.cost_bound.specs.declared.measuring.Around.{Around}
use Rattle.cost_bound.specs.declared.measuring.Measuring.{Measuring}
use Rattle.cost_bound.specs.declared.measuring.Turns.{Turns}

-- an expression
abbrev pub FindsExpr : Measuring → TypedTree → Budget → Measured → Type 0
FindsExpr m e left = Finds (size_in m e) (cost_in m e) (visits_in m e) left

abbrev pub ExceedsExpr : Measuring → TypedTree → Budget → Refusal → Type 0
ExceedsExpr m e left = Exceeds (cost_in m e) (visits_in m e) left

-- an expression without the visit of its own node
abbrev pub FindsInside : Measuring → TypedTree → Budget → Measured → Type 0
FindsInside m e left = Finds (size_in m e) (cost_in m e) (visits_inside_in m e) left

abbrev pub ExceedsInside : Measuring → TypedTree → Budget → Refusal → Type 0
ExceedsInside m e left = Exceeds (cost_in m e) (visits_inside_in m e) left

-- a look-up of a name in a map, with the size of the map's values
abbrev pub FindsField : Measuring → TypedTree → (name : List ℕ) → Budget → Measured → Type 0
FindsField m e name left =
    Finds (value_size (size_in m e)) (cost_in m e + field_cost name (size_in m e)) (visits_in m e) left

-- the question whether a map has a name
abbrev pub FindsHas : Measuring → TypedTree → (name : List ℕ) → Budget → Measured → Type 0
FindsHas m e name left = Finds Flat (cost_in m e + field_cost name (size_in m e)) (visits_in m e) left

abbrev pub ExceedsField : Measuring → TypedTree → (name : List ℕ) → Budget → Refusal → Type 0
ExceedsField m e name left = Exceeds (cost_in m e + field_cost name (size_in m e)) (visits_in m e) left

-- a list literal of this type
abbrev pub FindsList : Measuring → ValueType → TypedTrees → Budget → Measured → Type 0
FindsList m t es left = Finds (list_size t (sizes_in m es))
    (total (costs_in m es) + (1 + length (costs_in m es))) (visits_in_each m es) left

abbrev pub ExceedsList : Measuring → TypedTrees → Budget → Refusal → Type 0
ExceedsList m es left = Exceeds (total (costs_in m es) + (1 + length (costs_in m es))) (visits_in_each m es) left

-- a map literal of this type
abbrev pub FindsMap : Measuring → ValueType → TypedTrees → Budget → Measured → Type 0
FindsMap m t es left = Finds (map_size t (sizes_in m es))
    (total (costs_in m es) + map_cost (sizes_in m es)) (visits_in_each m es) left

abbrev pub ExceedsMap : Measuring → TypedTrees → Budget → Refusal → Type 0
ExceedsMap m es left = Exceeds (total (costs_in m es) + map_cost (sizes_in m es)) (visits_in_each m es) left

-- a call of these operands
abbrev pub FindsCall : Measuring → Overload → TypedTrees → Budget → Measured → Type 0
FindsCall m o es left = Finds (call_size o (sizes_in m es))
    (call_cost o (kinds es) (costs_in m es) (sizes_in m es)) (visits_in_each m es) left

abbrev pub ExceedsCall : Measuring → Overload → TypedTrees → Budget → Refusal → Type 0
ExceedsCall m o es left = Exceeds (call_cost o (kinds es) (costs_in m es) (sizes_in m es)) (visits_in_each m es) left

-- a call of operands whose number no overload takes
abbrev pub FindsOthers : Measuring → TypedTrees → Budget → Measured → Type 0
FindsOthers m es left = Finds Flat (total (costs_in m es) + 1) (visits_in_each m es) left

abbrev pub ExceedsOthers : Measuring → TypedTrees → Budget → Refusal → Type 0
ExceedsOthers m es left = Exceeds (total (costs_in m es) + 1) (visits_in_each m es) left

-- a comprehension of this type
abbrev pub FindsLoop : Measuring → ValueType → TypedParts → Budget → Measured → Type 0
FindsLoop m t p left =
    Finds (size_in m (loop_of t p)) (cost_in m (loop_of t p)) (loop_visits_in m p) left

abbrev pub ExceedsLoop : Measuring → ValueType → TypedParts → Budget → Refusal → Type 0
ExceedsLoop m t p left = Exceeds (cost_in m (loop_of t p)) (loop_visits_in m p) left

-- the same, by what surrounds it
abbrev pub FindsParts : Around → ValueType → TypedParts → Budget → Measured → Type 0
FindsParts a t p left = Finds (size_of (loop_of t p) a.limits.now (scope_view a.locals.now))
    (cost_of (loop_of t p) a.limits.now (scope_view a.locals.now)) (loop_visits p a.limits.now (scope_view a.locals.now)) left

abbrev pub ExceedsParts : Around → ValueType → TypedParts → Budget → Refusal → Type 0
ExceedsParts a t p left = Exceeds (cost_of (loop_of t p) a.limits.now (scope_view a.locals.now))
    (loop_visits p a.limits.now (scope_view a.locals.now)) left

-- so many turns of a comprehension, from what was found of its accumulator on
abbrev pub FindsTurns : TypedParts → Turns → ℕ → Measured → Measured → Type 0
FindsTurns p t n begun = Finds (grown (next_in p t) n (size_view begun.size))
    (turns_cost (next_in p t) (turn_in p t) n (size_view begun.size))
    (turns_visits (next_in p t) (turn_visits_in p t) n (size_view begun.size)) begun.left

abbrev pub ExceedsTurns : TypedParts → Turns → ℕ → Measured → Refusal → Type 0
ExceedsTurns p t n begun = Exceeds (turns_cost (next_in p t) (turn_in p t) n (size_view begun.size))
    (turns_visits (next_in p t) (turn_visits_in p t) n (size_view begun.size)) begun.left

-- one turn, at this size of the accumulator before it
abbrev pub FindsTurn : TypedParts → Turns → Size → Budget → Measured → Type 0
FindsTurn p t s left = Finds (join s (next_in p t s)) (turn_in p t s) (turn_visits_in p t s) left

abbrev pub ExceedsTurn : TypedParts → Turns → Size → Budget → Refusal → Type 0
ExceedsTurn p t s left = Exceeds (turn_in p t s) (turn_visits_in p t s) left

-- the condition and the step of one turn, at this size of the accumulator before it
abbrev pub FindsBody : Measuring → TypedParts → Size → Budget → Measured → Type 0
FindsBody m p s left = Finds (join s (size_in m p.step)) (cost_in m p.condition + cost_in m p.step + 4)
    (visits_in m p.condition + visits_in m p.step) left

abbrev pub ExceedsBody : Measuring → TypedParts → Budget → Refusal → Type 0
ExceedsBody m p left = Exceeds (cost_in m p.condition + cost_in m p.step + 4)
    (visits_in m p.condition + visits_in m p.step) left
