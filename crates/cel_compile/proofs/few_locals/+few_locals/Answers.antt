use Rattle.std.proofs.Common.{◌≡◌, ◌↔◌, get_or, rules}
use Rattle.std.specs.Prelude.{IsTrue}
use Rattle.cel_types.specs.View.{expr_view, loop_of}
use Rattle.cel_types.specs.private.ExprViews.{parts_view}
use Rattle.cel_types.specs.declared.typed.TypedExpr as exprs
use Rattle.cel_value.specs.Types.{type_view}
use Rattle.cel_compile.specs.Slots.{HasFewLocals}
use Rattle.cel_compile.proofs.Operands.{not_here, still}
use Rattle.cel_compile.proofs.few_locals.+few_locals.Goals as goal

pub has_few_locals-returns-in-Loop : goal.has_few_locals-returns-in-Loop
has_few_locals-returns-in-Loop t c =
    let seen : expr_view c.args.expr.now ≡ loop_of (type_view c.in-Loop.cel_type) (parts_view c.in-Loop.parts.value) = rw (c.in-Loop.is) (search (rules, exprs.the_lemmas)) in
    let inner : IsTrue c.loop_has_few_locals.result ↔ HasFewLocals c.args.depth (loop_of (type_view c.in-Loop.cel_type) (parts_view c.in-Loop.parts.value)) =
    rw (← c.deref-in-Loop.ensures) (c.loop_has_few_locals.ensures (type_view c.in-Loop.cel_type)) in
    rw seen inner

pub have_few_locals-returns-then-not-has_few_locals : goal.have_few_locals-returns-then-not-has_few_locals
have_few_locals-returns-then-not-has_few_locals t c =
    let here : IsTrue c.has_few_locals.result ↔ HasFewLocals c.args.depth (expr_view (get_or c.args.exprs.now c.loop-expr.expr-index c.expr-item.result)) =
    rw (← c.expr-item.is) (c.has_few_locals.ensures) in
    not_here c.args.depth c.args.exprs.now c.loop-expr.expr-index c.expr-item.result c.loop-expr-test.true c.has_few_locals.result here c.loop-expr.invariant c.if-not-has_few_locals.true

pub have_few_locals-loop-expr-preserved : goal.have_few_locals-loop-expr-preserved
have_few_locals-loop-expr-preserved t c =
    let here : IsTrue c.has_few_locals.result ↔ HasFewLocals c.args.depth (expr_view (get_or c.args.exprs.now c.loop-expr.expr-index c.expr-item.result)) =
    rw (← c.expr-item.is) (c.has_few_locals.ensures) in
    still c.args.depth c.args.exprs.now c.loop-expr.expr-index c.expr-item.result c.loop-expr-test.true c.has_few_locals.result here c.loop-expr.invariant c.if-not-has_few_locals.false
