-- A checked expression, with no memory in it: `google/api/expr/v1alpha1/checked.proto`,
-- CheckedExpr, Type and Reference.
use Rattle.std.specs.Prelude.{ℕ, List, Option}
use Rattle.std.specs.FinMap.{FinMap}
use Rattle.std.specs.Ordering.{int_cmp}
use Rattle.cel_value.specs.Types.{ValueType}
use Rattle.cel_value.specs.Values.{CelValue}
use Rattle.cel_tree.specs.Tree.{CelTree}

-- an entry of the type map: the type of its node, `dyn`, which states no type, or a type of which
-- some part is unsupported
pub data CelTypeEntry : Type 0 where
  of_type : ValueType → CelTypeEntry
  dyn_type : CelTypeEntry
  unsupported_type : CelTypeEntry

-- an entry of the reference map: the name that its node refers to, and a value if the name is that
-- of a constant
pub record CelReference : Type 0 where
  pub name : List ℕ
  pub value : Option CelValue

-- a tree, and the entries of its maps by the ids of nodes
pub record CelChecked : Type 0 where
  pub tree : CelTree
  pub types : FinMap int_cmp CelTypeEntry
  pub refs : FinMap int_cmp CelReference
