-- The elaborated expressions that values of the code mean.
use Rattle.std.specs.Prelude.{List, [], ◌∷◌}
use Rattle.cel_value.specs.Texts.{text_view}
use Rattle.cel_value.specs.Types.{type_view}
use Rattle.cel_tree.specs.View.{constant_view}
use Rattle.cel_types.specs.Elaborated.{TypedTree, typed_constant, typed_local, typed_attribute, typed_field, typed_has, typed_call, typed_list, typed_map, typed_loop, TypedTrees, no_typed, typed}
use Rattle.cel_types.specs.declared.typed.TypedExpr.{TypedExpr, fold-TypedExpr}
use Rattle.cel_types.specs.declared.typed.TypedExpr.TheOpen.{TypedExpr-F, TypedLoop-F}
use Rattle.cel_types.specs.declared.typed.Typed.{Typed}
use Rattle.cel_types.specs.declared.typed.Variables.{Variables}
use Rattle.cel_value.specs.Types.{ValueType}

-- the parts of a comprehension
pub record TypedParts : Type 0 where
  pub variables : Variables
  pub range : TypedTree
  pub init : TypedTree
  pub condition : TypedTree
  pub step : TypedTree
  pub result : TypedTree

-- expressions in order
abbrev pub typed_of : List TypedTree → TypedTrees
typed_of [] = no_typed
typed_of (e ∷ es) = typed e (typed_of es)

-- the comprehension of these parts
abbrev pub loop_of : ValueType → TypedParts → TypedTree
loop_of t p = typed_loop t p.variables p.range p.init p.condition p.step p.result

-- one level of an expression, whose inner expressions are already translated
abbrev pub expr_level : TypedExpr-F TypedTree TypedParts → TypedTree
expr_level (TypedExpr-F.Constant t c) = typed_constant (type_view t) (constant_view c.now)
expr_level (TypedExpr-F.Local t outside) = typed_local (type_view t) outside
expr_level (TypedExpr-F.Attribute t a) = typed_attribute (type_view t) a
expr_level (TypedExpr-F.Field t m name) = typed_field (type_view t) m.value (text_view name.now)
expr_level (TypedExpr-F.HasField t m name) = typed_has (type_view t) m.value (text_view name.now)
expr_level (TypedExpr-F.Call t o es) = typed_call (type_view t) o (typed_of es.items)
expr_level (TypedExpr-F.List t es) = typed_list (type_view t) (typed_of es.items)
expr_level (TypedExpr-F.Map t es) = typed_map (type_view t) (typed_of es.items)
expr_level (TypedExpr-F.Loop t p) = loop_of (type_view t) p.value

-- one level of a comprehension's parts, whose expressions are already translated
abbrev pub parts_level : TypedLoop-F TypedTree TypedParts → TypedParts
parts_level p = record {
  variables = p.variables;
  range = p.range;
  init = p.init;
  condition = p.condition;
  step = p.step;
  result = p.result;
}

-- the expression that a `TypedExpr` means
abbrev pub expr_view : TypedExpr → TypedTree
expr_view = fold-TypedExpr TypedTree TypedParts expr_level parts_level

-- the elaborated expression that a `Typed` means
abbrev pub typed_view : Typed → TypedTree
typed_view t = expr_view t.root
