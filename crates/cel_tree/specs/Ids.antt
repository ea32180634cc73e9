-- Expressions whose ids are int64: `google/api/expr/v1alpha1/syntax.proto`, Expr and
-- CreateStruct.Entry, and `google/api/expr/v1alpha1/checked.proto`, CheckedExpr.
use Rattle.std.specs.Prelude.{◌≡◌, ℤ, Some}
use Rattle.std.specs.FinMap.{FinMap, get}
use Rattle.std.specs.Ordering.{int_cmp}
use Rattle.cel_value.specs.Types.{IsInt64}
use Rattle.cel_tree.specs.Checked.{CelChecked}
use Rattle.cel_tree.specs.Tree.{CelTree, constant, ident, select, call, list_literal, map_literal, comprehension, CelTarget, no_target, target, CelTrees, no_trees, tree, CelTreeEntries, no_tree_entries, tree_entry}

abbrev mutual
  -- the id of each node of the tree, and of each entry of its map literals, is an int64
  pub HasIds : CelTree → Type 0
  HasIds (constant id v) = IsInt64 id
  HasIds (ident id name) = IsInt64 id
  HasIds (select id operand field test_only) = IsInt64 id × HasIds operand
  HasIds (call id function on args) = IsInt64 id × TargetHasIds on × AllHaveIds args
  HasIds (list_literal id elements) = IsInt64 id × AllHaveIds elements
  HasIds (map_literal id entries) = IsInt64 id × EntriesHaveIds entries
  HasIds (comprehension id x y acc range init condition step result) =
      IsInt64 id × HasIds range × HasIds init × HasIds condition × HasIds step × HasIds result

  -- each id in a call's target, if there is one, is an int64
  pub TargetHasIds : CelTarget → Type 0
  TargetHasIds no_target = Unit {0}
  TargetHasIds (target on) = HasIds on

  -- each id in these expressions is an int64
  pub AllHaveIds : CelTrees → Type 0
  AllHaveIds no_trees = Unit {0}
  AllHaveIds (tree t ts) = HasIds t × AllHaveIds ts

  -- each id of these entries, and each id in their keys and values, is an int64
  pub EntriesHaveIds : CelTreeEntries → Type 0
  EntriesHaveIds no_tree_entries = Unit {0}
  EntriesHaveIds (tree_entry id key value es) =
      IsInt64 id × HasIds key × HasIds value × EntriesHaveIds es

-- each id of the map is an int64
abbrev pub MapHasIds : {V : Type 0} → FinMap int_cmp V → Type 0
MapHasIds {V} m = (id : ℤ) (v : V) → get m id ≡ Some v → IsInt64 id

-- each id of a checked expression is an int64
abbrev pub IdsAreInt64 : CelChecked → Type 0
IdsAreInt64 c = HasIds c.tree × MapHasIds c.types × MapHasIds c.refs
