-- The meaning of lists of expressions, and of a comprehension's parts, in the code.
use Rattle.std.specs.Prelude.{List, map}
use Rattle.cel_types.specs.Elaborated.{TypedTrees}
use Rattle.cel_types.specs.View.{TypedParts, expr_view, typed_of}
use Rattle.cel_types.specs.declared.typed.TypedExpr.{TypedExpr}
use Rattle.cel_types.specs.declared.typed.TypedLoop.{TypedLoop}

-- the parts of a comprehension
abbrev pub parts_view : TypedLoop → TypedParts
parts_view p = record {
  variables = p.variables;
  range = expr_view p.range;
  init = expr_view p.init;
  condition = expr_view p.condition;
  step = expr_view p.step;
  result = expr_view p.result;
}

-- expressions in order
abbrev pub exprs_view : List TypedExpr → TypedTrees
exprs_view es = typed_of (map expr_view es)
