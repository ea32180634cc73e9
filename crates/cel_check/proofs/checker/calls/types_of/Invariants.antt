use Rattle.std.proofs.Common.{◌≡◌, take}
use Rattle.cel_overload.specs.View.{types_of}
use Rattle.cel_types.specs.Elaborated.{kinds}
use Rattle.cel_types.specs.private.ExprViews.{exprs_view}
use Rattle.cel_check.proofs.checker.calls.types_of.Given as goal

-- the types so far are those of the expressions so far
abbrev pub invariant-loop-expr : goal.invariant-loop-expr
invariant-loop-expr l = types_of l.types.items ≡ kinds (exprs_view (take l.expr-index l.exprs))
