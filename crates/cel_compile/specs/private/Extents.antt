-- The number of an expression's instructions, which does not depend on where its code begins.
use Rattle.std.specs.Prelude.{ℕ, ◌+◌}
use Rattle.cel_ops.specs.declared.operation.Operation.TheVariants as operations
use Rattle.cel_overload.specs.declared.overload.Overload.TheVariants as overloads
use Rattle.cel_types.specs.Elaborated.{TypedTree, typed_constant, typed_local, typed_attribute, typed_field, typed_has, typed_call, typed_list, typed_map, typed_loop, TypedTrees, no_typed, typed}

abbrev mutual
  -- the number of instructions of an expression
  pub extent : TypedTree → ℕ
  extent (typed_constant t v) = 1
  extent (typed_local t outside) = 1
  extent (typed_attribute t a) = 1
  extent (typed_field t on name) = extent on + 1
  extent (typed_has t on name) = extent on + 1
  extent (typed_call t (overloads.Operate operations.And) (typed a (typed b no_typed))) =
      extent a + 1 + extent b + 1
  extent (typed_call t (overloads.Operate operations.Or) (typed a (typed b no_typed))) =
      extent a + 1 + extent b + 1
  extent (typed_call t overloads.Conditional (typed c (typed a (typed b no_typed)))) =
      extent c + 1 + extent a + 1 + extent b
  extent (typed_call t o operands) = extents operands + 1
  extent (typed_list t elements) = extents elements + 1
  extent (typed_map t entries) = extents entries + 1
  extent (typed_loop t vars range init condition step result) = extent range + 1 + extent init + 1 + 1
      + extent condition + 1 + extent step + 1 + 1 + extent result

  -- the number of instructions of expressions in order
  pub extents : TypedTrees → ℕ
  extents no_typed = 0
  extents (typed e es) = extent e + extents es
