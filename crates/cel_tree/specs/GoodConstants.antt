-- Trees whose constants have the types of their kinds: CEL language definition, "Values" and
-- "Literals".
use Rattle.cel_value.specs.Types.{HasType, bool_type, int_type, uint_type, text_type, bytes_type}
use Rattle.cel_value.specs.Values.{CelValue, bool, int, uint, text, bytes}
use Rattle.cel_tree.specs.Tree.{CelTree, constant, ident, select, call, list_literal, map_literal, comprehension, CelTarget, no_target, target, CelTrees, no_trees, tree, CelTreeEntries, no_tree_entries, tree_entry}

-- the constant has the type of its kind; no constant is a list or a map
abbrev pub IsGoodConstant : CelValue → Type 0
IsGoodConstant (bool b) = HasType (bool b) bool_type
IsGoodConstant (int i) = HasType (int i) int_type
IsGoodConstant (uint n) = HasType (uint n) uint_type
IsGoodConstant (text cs) = HasType (text cs) text_type
IsGoodConstant (bytes bs) = HasType (bytes bs) bytes_type
IsGoodConstant _ = ⊥

abbrev mutual
  -- each constant in the tree has the type of its kind
  pub HasGoodConstants : CelTree → Type 0
  HasGoodConstants (constant id v) = IsGoodConstant v
  HasGoodConstants (ident id name) = Unit {0}
  HasGoodConstants (select id operand field test_only) = HasGoodConstants operand
  HasGoodConstants (call id function on args) = TargetIsGood on × AreGood args
  HasGoodConstants (list_literal id elements) = AreGood elements
  HasGoodConstants (map_literal id entries) = EntriesAreGood entries
  HasGoodConstants (comprehension id x y acc range init condition step result) =
      HasGoodConstants range × HasGoodConstants init × HasGoodConstants condition
      × HasGoodConstants step × HasGoodConstants result

  -- the constants of a call's target, if there is one, have the types of their kinds
  pub TargetIsGood : CelTarget → Type 0
  TargetIsGood no_target = Unit {0}
  TargetIsGood (target on) = HasGoodConstants on

  -- the constants of each expression have the types of their kinds
  pub AreGood : CelTrees → Type 0
  AreGood no_trees = Unit {0}
  AreGood (tree t ts) = HasGoodConstants t × AreGood ts

  -- the constants of each key and value have the types of their kinds
  pub EntriesAreGood : CelTreeEntries → Type 0
  EntriesAreGood no_tree_entries = Unit {0}
  EntriesAreGood (tree_entry id key value es) =
      HasGoodConstants key × HasGoodConstants value × EntriesAreGood es
