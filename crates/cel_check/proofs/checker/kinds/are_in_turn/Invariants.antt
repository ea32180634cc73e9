use Rattle.std.proofs.Common.{◌≡◌, drop}
use Rattle.cel_value.specs.Types.{type_view}
use Rattle.cel_types.specs.Elaborated.{kinds}
use Rattle.cel_types.specs.private.ExprViews.{exprs_view}
use Rattle.cel_check.specs.private.Kinds.{in_turn}
use Rattle.cel_check.proofs.checker.kinds.are_in_turn.Given as goal

-- those that are left are in turn where all are
abbrev pub invariant-loop-expr : goal.invariant-loop-expr
invariant-loop-expr l =
    in_turn (type_view l.this) (type_view l.next) (kinds (exprs_view (drop l.expr-index l.exprs)))
    ≡ in_turn (type_view l.first) (type_view l.second) (kinds (exprs_view l.exprs))
