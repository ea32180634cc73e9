use Rattle.std.proofs.Common.{◌≡◌, ◌+◌, ◌≤◌, drop, length}
use Rattle.cel_types.specs.private.ExprViews.{exprs_view, parts_view}
use Rattle.cel_costs.specs.Costs.{costs_of, grown, join_all, sizes_of, total, turns_cost}
use Rattle.cel_costs.specs.Sizes.{join}
use Rattle.cel_costs.specs.Visits.{turns_visits, visits_of_each}
use Rattle.cost_bound.specs.private.Measuring.{next_in, scope_in, turn_in, turn_visits_in}
use Rattle.cost_bound.specs.private.SizeView.{IsEntries, size_view}
use Rattle.cost_bound.proofs.measure.+measure.Given as goal

abbrev pub invariant-measure_others-loop-operand : goal.invariant-measure_others-loop-operand
invariant-measure_others-loop-operand l =
    (l.initial.rest.steps + total (costs_of (exprs_view (drop l.operand-index l.operands)) l.at.around.limits.now (scope_in l.at))
    ≡ total (costs_of (exprs_view l.operands) l.at.around.limits.now (scope_in l.at)) + l.rest.steps)
    × (l.initial.rest.visits + visits_of_each (exprs_view (drop l.operand-index l.operands)) l.at.around.limits.now (scope_in l.at)
    ≡ visits_of_each (exprs_view l.operands) l.at.around.limits.now (scope_in l.at) + l.rest.visits)

abbrev pub invariant-measure_list-loop-item : goal.invariant-measure_list-loop-item
invariant-measure_list-loop-item l =
    (join (size_view l.joined)
    (join_all (sizes_of (exprs_view (drop l.item-index l.items)) l.at.around.limits.now (scope_in l.at)))
    ≡ join_all (sizes_of (exprs_view l.items) l.at.around.limits.now (scope_in l.at)))
    × (l.initial.rest.steps + total (costs_of (exprs_view (drop l.item-index l.items)) l.at.around.limits.now (scope_in l.at))
    ≡ total (costs_of (exprs_view l.items) l.at.around.limits.now (scope_in l.at)) + l.rest.steps)
    × (l.initial.rest.visits + visits_of_each (exprs_view (drop l.item-index l.items)) l.at.around.limits.now (scope_in l.at)
    ≡ visits_of_each (exprs_view l.items) l.at.around.limits.now (scope_in l.at) + l.rest.visits)

abbrev pub invariant-measure_map-loop-place : goal.invariant-measure_map-loop-place
invariant-measure_map-loop-place l =
    (l.place ≤ length l.pairs)
    × IsEntries l.entries (sizes_of (exprs_view (drop l.place l.pairs)) l.at.around.limits.now (scope_in l.at))
    × (l.initial.rest.steps ≡ total (costs_of (exprs_view (drop l.place l.pairs)) l.at.around.limits.now (scope_in l.at))
    + l.rest.steps)
    × (l.initial.rest.visits ≡ visits_of_each (exprs_view (drop l.place l.pairs)) l.at.around.limits.now (scope_in l.at)
    + l.rest.visits)

abbrev pub decreases-measure_map-loop-place : goal.decreases-measure_map-loop-place
decreases-measure_map-loop-place l = l.place

abbrev pub invariant-measure_turns-loop-others : goal.invariant-measure_turns-loop-others
invariant-measure_turns-loop-others l =
    let next = next_in (parts_view l.parts) l.turns in
    let turn = turn_in (parts_view l.parts) l.turns in
    let look = turn_visits_in (parts_view l.parts) l.turns in
    (grown next l.others (size_view l.accumulator) ≡ grown next l.initial.others (size_view l.initial.accumulator))
    × (l.initial.rest.steps + turns_cost next turn l.others (size_view l.accumulator)
    ≡ turns_cost next turn l.initial.others (size_view l.initial.accumulator) + l.rest.steps)
    × (l.initial.rest.visits + turns_visits next look l.others (size_view l.accumulator)
    ≡ turns_visits next look l.initial.others (size_view l.initial.accumulator) + l.rest.visits)

abbrev pub decreases-measure_turns-loop-others : goal.decreases-measure_turns-loop-others
decreases-measure_turns-loop-others l = l.others
