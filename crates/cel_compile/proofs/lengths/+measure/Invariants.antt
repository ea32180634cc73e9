use Rattle.std.proofs.Common.{◌-◌, drop, length}
use Rattle.cel_types.specs.private.ExprViews.{exprs_view}
use Rattle.cel_compile.specs.private.Lengths.{MeasuresAll}
use Rattle.cel_compile.proofs.lengths.+measure.Given as goal

abbrev pub invariant-measure_all-loop-measured : goal.invariant-measure_all-loop-measured
invariant-measure_all-loop-measured l =
    MeasuresAll l.fn.lengths.items l.lengths.items l.count (exprs_view (drop (length l.exprs - l.measured) l.exprs))
