-- How expressions are seen, constructor by constructor.
use Rattle.std.proofs.Common.{◌≡◌, rules}
use Rattle.std.specs.declared.boxed.Box.{Box}
use Rattle.std.specs.declared.alloc.Global.{Global}
use Rattle.cel_types.specs.View.{expr_view, loop_of}
use Rattle.cel_types.specs.private.ExprViews.{parts_view}
use Rattle.cel_types.specs.declared.typed.TypedExpr.{Loop as LoopExpr, the_lemmas}
use Rattle.cel_types.specs.declared.typed.TypedLoop.{TypedLoop}
use Rattle.cel_value.specs.Types.{type_view}
use Rattle.cel_value.specs.declared.cel_type.CelType.{CelType}

pub view_loop : (t : CelType) (p : Box TypedLoop Global) → expr_view (LoopExpr t p)
    ≡ loop_of (type_view t) (parts_view p.value)
view_loop t p = search (rules, the_lemmas)
