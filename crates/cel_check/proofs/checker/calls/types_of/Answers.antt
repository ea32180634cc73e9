use Rattle.cel_check.proofs.CheckSteps.{types_push}
use Rattle.cel_check.proofs.checker.calls.types_of.Goals as goal

pub loop-expr-preserved : goal.loop-expr-preserved
loop-expr-preserved c =
    rw c.in_ok-push.ensures.items
    (types_push c.loop-expr.types.items c.cel_type.result c.args.exprs.now c.loop-expr.expr-index
    c.expr-item.result c.loop-expr-test.true c.expr-item.is c.loop-expr.invariant c.cel_type.ensures)
