use Rattle.std.proofs.Common.{◌≡◌, drop, map}
use Rattle.cel_value.specs.View.{answer_view}
use Rattle.cel_ops.specs.private.Gathering.{some_error}
use Rattle.cel_meaning.proofs.literals.has_error.Given as goal

abbrev pub invariant-loop-operand : goal.invariant-loop-operand
invariant-loop-operand l =
    some_error (map answer_view (drop l.operand-index l.operands))
    ≡ some_error (map answer_view l.operands)
