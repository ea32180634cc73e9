-- The most locals that an expression has in scope: a local's number is one byte.
use Rattle.std.specs.Prelude.{ℕ, ◌+◌, ◌≤◌}
use Rattle.cel_types.specs.Elaborated.{TypedTree, typed_constant, typed_local, typed_attribute, typed_field, typed_has, typed_call, typed_list, typed_map, typed_loop, TypedTrees, no_typed, typed}
use Rattle.cel_types.specs.Names.{variable_count}

abbrev mutual
  -- no part of the expression has more than 255 locals in scope, if `scope` are in scope outside of it
  pub HasFewLocals : (scope : ℕ) → TypedTree → Type 0
  HasFewLocals d (typed_constant t v) = Unit {0}
  HasFewLocals d (typed_local t outside) = Unit {0}
  HasFewLocals d (typed_attribute t a) = Unit {0}
  HasFewLocals d (typed_field t on name) = HasFewLocals d on
  HasFewLocals d (typed_has t on name) = HasFewLocals d on
  HasFewLocals d (typed_call t o operands) = HaveFewLocals d operands
  HasFewLocals d (typed_list t elements) = HaveFewLocals d elements
  HasFewLocals d (typed_map t entries) = HaveFewLocals d entries
  HasFewLocals d (typed_loop t vars range init condition step result) =
      (d + 1 + variable_count vars ≤ 255) × HasFewLocals d range × HasFewLocals d init
      × HasFewLocals (d + 1 + variable_count vars) condition
      × HasFewLocals (d + 1 + variable_count vars) step × HasFewLocals (d + 1) result

  -- the same for each of the expressions
  pub HaveFewLocals : (scope : ℕ) → TypedTrees → Type 0
  HaveFewLocals d no_typed = Unit {0}
  HaveFewLocals d (typed e es) = HasFewLocals d e × HaveFewLocals d es
