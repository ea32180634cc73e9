-- The scopes and names that values of the code mean.
use Rattle.std.specs.Prelude.{◌≡◌, ◌+◌, ℕ, ℤ, List, [], ◌∷◌, Option, Some, None}
use Rattle.std.specs.Option.{option_or}
use Rattle.cel_ops.specs.Attributes.{attribute_type}
use Rattle.cel_value.specs.Texts.{text_view}
use Rattle.cel_value.specs.Types.{ValueType, type_view}
use Rattle.cel_tree.specs.Tree.{CelTree, constant, ident, select, call, list_literal, map_literal, comprehension}
use Rattle.cel_tree.specs.View.{LoopParts}
use Rattle.cel_types.specs.Attributes.{attribute_named}
use Rattle.cel_types.specs.Elaborated.{TypedTree, slot, typed_attribute, typed_local}
use Rattle.cel_types.specs.Names.{local, variable_count, variables_of}
use Rattle.cel_types.specs.Typing.{Kinds, greatest, locals_in}
use Rattle.cel_check.specs.Places.{first_crowded, first_crowded_each, first_crowded_entry, first_crowded_target}
use Rattle.cel_check.specs.declared.checker.names.Name.{Name}
use Rattle.cel_check.specs.declared.checker.names.Name.TheVariants as names
use Rattle.cel_check.specs.declared.checker.scope.FoundLocal.{FoundLocal}
use Rattle.cel_check.specs.declared.checker.scope.Scope.{Scope, fold-Scope}
use Rattle.cel_check.specs.declared.checker.scope.Scope.TheOpen.{Scope-F}

-- one level of a scope, whose outer level is already translated
abbrev pub scope_level : Scope-F Kinds → Kinds
scope_level Scope-F.Empty = []
scope_level (Scope-F.Local name t outer) = (text_view name.now, type_view t.now) ∷ outer.now

-- the names and types of a scope
abbrev pub scope_view : Scope → Kinds
scope_view = fold-Scope Kinds scope_level

-- the type of a local that was found
abbrev pub found_type : FoundLocal → ValueType
found_type f = type_view f.cel_type.now

-- how many locals are outside of a local that was found
abbrev pub found_slot : FoundLocal → ℕ
found_slot f = f.outside

-- the name is this local or this attribute
abbrev pub IsName : List ℕ → Kinds → Name → Type 0
IsName name ks (names.Local f) =
    (local name ks ≡ Some (found_type f)) × (slot name ks ≡ Some f.outside)
IsName name ks (names.Attribute id) = (local name ks ≡ None) × (slot name ks ≡ None)
    × (attribute_named name ≡ Some id)

-- the expression that a name is
abbrev pub name_view : Name → TypedTree
name_view (names.Local f) = typed_local (found_type f) f.outside
name_view (names.Attribute id) = typed_attribute (attribute_type id) id

-- the greatest number of a comprehension's own locals that a node inside has in scope
abbrev pub locals_in_loop : LoopParts → ℕ
locals_in_loop p = greatest (locals_in p.iter_range) (locals_in p.accu_init)
    (variable_count (variables_of p.iter_var2) + 1 + locals_in p.loop_condition)
    (variable_count (variables_of p.iter_var2) + 1 + locals_in p.loop_step) (1 + locals_in p.result)

-- the first node of a comprehension's parts that has too many locals in scope
abbrev pub crowded_in_loop : ℕ → LoopParts → Option ℤ
crowded_in_loop n p = option_or (first_crowded n p.iter_range) (option_or (first_crowded n p.accu_init)
    (option_or (first_crowded (n + (variable_count (variables_of p.iter_var2) + 1)) p.loop_condition)
    (option_or (first_crowded (n + (variable_count (variables_of p.iter_var2) + 1)) p.loop_step)
    (first_crowded (n + 1) p.result))))

-- the first node inside an expression that has too many locals in scope
abbrev pub crowded_inside : ℕ → CelTree → Option ℤ
crowded_inside n (constant id v) = None
crowded_inside n (ident id name) = None
crowded_inside n (select id operand field test_only) = first_crowded n operand
crowded_inside n (call id name on args) = option_or (first_crowded_target n on) (first_crowded_each n args)
crowded_inside n (list_literal id elements) = first_crowded_each n elements
crowded_inside n (map_literal id entries) = first_crowded_entry n entries
crowded_inside n (comprehension id x y acc range init condition step result) =
    crowded_in_loop n (record {
      iter_var = x;
      iter_var2 = y;
      accu_var = acc;
      iter_range = range;
      accu_init = init;
      loop_condition = condition;
      loop_step = step;
      result = result;
    })
