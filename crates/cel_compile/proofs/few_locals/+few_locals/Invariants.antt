use Rattle.std.proofs.Common.{◌↔◌, drop}
use Rattle.cel_types.specs.private.ExprViews.{exprs_view}
use Rattle.cel_compile.specs.Slots.{HaveFewLocals}
use Rattle.cel_compile.proofs.few_locals.+few_locals.Given as goal

abbrev pub invariant-have_few_locals-loop-expr : goal.invariant-have_few_locals-loop-expr
invariant-have_few_locals-loop-expr l =
    HaveFewLocals l.depth (exprs_view (drop l.expr-index l.exprs)) ↔ HaveFewLocals l.depth (exprs_view l.exprs)
