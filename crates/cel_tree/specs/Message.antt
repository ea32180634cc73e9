-- The messages of a checked expression and of an expression without entries, and what is wrong with them:
-- `google/api/expr/v1alpha1/checked.proto`, CheckedExpr, and `syntax.proto`, Expr.
use Rattle.std.specs.Prelude.{◌≡◌, ◌≢◌, ◌⊎◌, ◌≤◌, ℕ, List, [], ◌∷◌}
use Rattle.std.specs.FinMap.{empty}
use Rattle.proto_wire.specs.Fields.{Wire}
use Rattle.proto_wire.specs.Keys.{len_key}
use Rattle.proto_wire.specs.Maps.{int64, IsMap, MapFault}
use Rattle.proto_wire.specs.Values.{payloads}
use Rattle.proto_wire.specs.declared.key.Key.{Key}
use Rattle.proto_wire.specs.declared.refusal.Refusal.{Refusal}
use Rattle.cel_tree.specs.Checked.{CelChecked}
use Rattle.proto_wire.specs.Reading.{Reads, ReadFault, OptionalFault}
use Rattle.cel_tree.specs.References.{IsReference, ReferenceFault}
use Rattle.cel_tree.specs.Trees.{IsTree, TreeFault, NodesFault, node_count}
use Rattle.cel_tree.specs.TypeEntries.{IsTypeEntry, TypeEntryFault}

-- how many nodes a tree may have
abbrev pub most_nodes : ℕ
most_nodes = 2048

-- how many levels a tree or a type may have
abbrev pub tree_depth : ℕ
tree_depth = 64

-- the fields of a CheckedExpr; the payloads of source_info and expr_version are not read
abbrev pub checked_field : record { reference_map : ℕ; type_map : ℕ; expr : ℕ; source_info : ℕ; expr_version : ℕ }
checked_field = record { reference_map = 2; type_map = 3; expr = 4; source_info = 5; expr_version = 6 }

-- all fields
abbrev pub checked_keys : List Key
checked_keys = len_key checked_field.reference_map ∷ len_key checked_field.type_map
    ∷ len_key checked_field.expr ∷ len_key checked_field.source_info
    ∷ len_key checked_field.expr_version ∷ []

-- the fields mean the checked expression
pub record CheckedSays (fs : List Wire) (c : CelChecked) : Type 0 where
  pub there : payloads checked_field.expr fs ≢ []
  pub tree : IsTree tree_depth (payloads checked_field.expr fs) c.tree
  pub few : node_count c.tree ≤ most_nodes
  pub types : IsMap int64 (IsTypeEntry tree_depth) (payloads checked_field.type_map fs) c.types
  pub refs : IsMap int64 IsReference (payloads checked_field.reference_map fs) c.refs

-- there is no expression
abbrev pub CheckedLacks : List Wire → Type 0
CheckedLacks fs = payloads checked_field.expr fs ≡ []

-- a fault of the message of an expression, or too many nodes
abbrev pub UncheckedFault : List (List ℕ) → Refusal → Type 0
UncheckedFault parts e = TreeFault tree_depth parts e ⊎ NodesFault tree_depth most_nodes parts e

-- a fault of a map or of the expression
pub data CheckedWrong (fs : List Wire) (e : Refusal) : Type 0 where
  in_expression : OptionalFault UncheckedFault checked_field.expr fs e → CheckedWrong fs e
  in_types : MapFault int64 (TypeEntryFault tree_depth) (payloads checked_field.type_map fs) e
      → CheckedWrong fs e
  in_refs : MapFault int64 ReferenceFault (payloads checked_field.reference_map fs) e
      → CheckedWrong fs e

-- the parts merge to the message of the checked expression
abbrev pub IsChecked : List (List ℕ) → CelChecked → Type 0
IsChecked = Reads checked_keys CheckedSays

-- a fault of the message of a checked expression
abbrev pub CheckedFault : List (List ℕ) → Refusal → Type 0
CheckedFault = ReadFault checked_keys CheckedLacks CheckedWrong

-- ---- expressions without entries

-- the parts merge to the message of an expression; there are no entries
pub record IsUnchecked (parts : List (List ℕ)) (c : CelChecked) : Type 0 where
  pub tree : IsTree tree_depth parts c.tree
  pub few : node_count c.tree ≤ most_nodes
  pub types : c.types ≡ empty
  pub refs : c.refs ≡ empty

-- the payloads that an expression is read from: of a checked expression, or of one without entries
pub data ExprParts : Type 0 where
  checked_parts : List (List ℕ) → ExprParts
  unchecked_parts : List (List ℕ) → ExprParts

-- there are payloads
abbrev pub ArePresent : ExprParts → Type 0
ArePresent (checked_parts parts) = parts ≢ []
ArePresent (unchecked_parts parts) = parts ≢ []

-- the payloads merge to this expression
abbrev pub IsExprOf : ExprParts → CelChecked → Type 0
IsExprOf (checked_parts parts) c = IsChecked parts c
IsExprOf (unchecked_parts parts) c = IsUnchecked parts c

-- a fault of the payloads
abbrev pub ExprFault : ExprParts → Refusal → Type 0
ExprFault (checked_parts parts) e = CheckedFault parts e
ExprFault (unchecked_parts parts) e = UncheckedFault parts e
