-- The abstract syntax tree of a checked expression, with no memory in it: CEL language definition,
-- "Abstract Syntax", and `google/api/expr/v1alpha1/syntax.proto`, Expr.
use Rattle.std.specs.Prelude.{ℕ, ℤ, Bool, List}
use Rattle.cel_value.specs.Values.{CelValue}

mutual
  -- an expression; the id of each node is first. A name is a list of code points, and a constant is
  -- a bool, an int, a uint, a text or bytes
  pub data CelTree : Type 0 where
    constant : ℤ → CelValue → CelTree
    ident : ℤ → (name : List ℕ) → CelTree
    select : ℤ → (operand : CelTree) → (field : List ℕ) → (test_only : Bool) → CelTree
    call : ℤ → (function : List ℕ) → (target : CelTarget) → (args : CelTrees) → CelTree
    list_literal : ℤ → (elements : CelTrees) → CelTree
    map_literal : ℤ → (entries : CelTreeEntries) → CelTree
    -- a comprehension of one variable has no second name
    comprehension : ℤ → (iter_var iter_var2 accu_var : List ℕ)
        → (iter_range accu_init loop_condition loop_step result : CelTree) → CelTree

  -- the optional target of a call
  pub data CelTarget : Type 0 where
    no_target : CelTarget
    target : CelTree → CelTarget

  -- expressions in order
  pub data CelTrees : Type 0 where
    no_trees : CelTrees
    tree : CelTree → CelTrees → CelTrees

  -- entries of a map literal in order: an id, a key and a value
  pub data CelTreeEntries : Type 0 where
    no_tree_entries : CelTreeEntries
    tree_entry : ℤ → (key value : CelTree) → CelTreeEntries → CelTreeEntries
