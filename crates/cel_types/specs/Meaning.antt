-- The meaning of an expression: CEL language definition, "Evaluation", "Logical Operators", "Field
-- Selection" and "Macros" (a macro is a comprehension). The order of errors is this project's choice.
-- None means that a value is of a wrong kind or a name is not known; neither occurs in an expression
-- that has a type.
use Rattle.std.specs.Prelude.{ℕ, Bool, true, false, List, [], ◌∷◌, map, Option, Some, None, option_map}
use Rattle.std.specs.Option.{option_and_then}
use Rattle.attributes.specs.Request.{RequestValue}
use Rattle.cel_value.specs.Values.{CelValue, bool, CelValues, no_items, item, CelAnswer, value, fails}
use Rattle.cel_tree.specs.Tree.{CelTree, constant, ident, select, call, list_literal, map_literal, comprehension, CelTarget, no_target, target, CelTrees, no_trees, tree, CelTreeEntries, no_tree_entries, tree_entry}
use Rattle.cel_ops.specs.Collections.{elements_of, pairs_of, field, has_field}
use Rattle.cel_ops.specs.Collections as collections
use Rattle.cel_overload.specs.Answers.{function_answer}
use Rattle.cel_overload.specs.Functions.{function_named}
use Rattle.cel_ops.specs.Attributes.{attribute}
use Rattle.cel_types.specs.Attributes.{attribute_named}
use Rattle.cel_types.specs.Names.{Scope, joined_name, local, root_of, turn_scope, variables_of}
use Rattle.cel_types.specs.declared.typed.Variables.{Variables}
use Rattle.cel_types.specs.declared.typed.Variables.TheVariants as variables

-- the answers of the locals in scope
abbrev pub Locals : Type 0
Locals = Scope CelAnswer

-- the answer of the attribute with this name
abbrev pub attribute_answer : RequestValue → List ℕ → Option CelAnswer
attribute_answer request name = option_map (attribute request) (attribute_named name)

-- the answer of an Ident: of the innermost local of its name, or of the attribute
abbrev pub name_answer : RequestValue → List ℕ → Option CelAnswer → Option CelAnswer
name_answer request name (Some a) = Some a
name_answer request name None = attribute_answer request name

-- the answer of a Select: of a root's attribute, of `m.f`, which is `m["f"]`, or of `has(m.f)`. A
-- test of an attribute has no answer
abbrev pub select_answer : RequestValue → Option (List ℕ) → Option CelAnswer → List ℕ → Bool
    → Option CelAnswer
select_answer request (Some root) operand name false =
    attribute_answer request (joined_name root name)
select_answer request (Some root) operand name true = None
select_answer request None operand name false = option_and_then (field name) operand
select_answer request None operand name true = option_and_then (has_field name) operand

-- the answer of a call: of its function on its operands, the target first
abbrev pub call_answer : List ℕ → Option (List CelAnswer) → Option CelAnswer
call_answer name operands = option_and_then
    (λ f. option_and_then (function_answer f) operands) (function_named name)

-- an answer, and then others
abbrev pub before : Option CelAnswer → Option (List CelAnswer) → Option (List CelAnswer)
before None others = None
before (Some a) None = None
before (Some a) (Some others) = Some (a ∷ others)

-- ---- comprehensions

-- one turn, by its condition. If true, the loop continues with the step's answer, which may be an
-- error; if false, it ends. If the condition is an error, that is the loop's answer
abbrev pub turn : (condition step : Option CelAnswer) → (next : CelAnswer → Option CelAnswer)
    → (ended : Option CelAnswer) → Option CelAnswer
turn (Some (value (bool true))) (Some a) next ended = next a
turn (Some (value (bool false))) step next ended = ended
turn (Some (fails e)) step next ended = Some (fails e)
turn _ _ next ended = None

-- what the one variable of a loop gets in each turn
abbrev pub one_each : CelValues → List (List CelAnswer)
one_each no_items = []
one_each (item v vs) = (value v ∷ []) ∷ one_each vs

-- what the variables get in each turn of a loop over a value, the innermost first. One variable gets the
-- items of a list, or the keys of a map in ascending order. Of two, the first gets the indices of a list or
-- the keys of a map, and the second gets the items or the values
abbrev pub turns_of : Variables → CelValue → Option (List (List CelAnswer))
turns_of variables.One v = option_map one_each (elements_of v)
turns_of variables.Two v = option_map (map (λ pair. value pair.1 ∷ pair.0 ∷ [])) (pairs_of v)

-- these turns, from this accumulator, and then the result of the last accumulator
abbrev pub fold : (condition step : List CelAnswer → CelAnswer → Option CelAnswer)
    → (result : CelAnswer → Option CelAnswer) → List (List CelAnswer) → CelAnswer → Option CelAnswer
fold condition step result [] gathered = result gathered
fold condition step result (vs ∷ turns) gathered =
    turn (condition vs gathered) (step vs gathered) (fold condition step result turns)
    (result gathered)

-- a loop over a range. If the range is an error, that is the loop's answer
abbrev pub over : Variables → Option CelAnswer → (List (List CelAnswer) → Option CelAnswer)
    → Option CelAnswer
over vars None go = None
over vars (Some (fails e)) go = Some (fails e)
over vars (Some (value v)) go = option_and_then go (turns_of vars v)

-- ---- one equation for each kind of node

abbrev mutual
  -- the answer of an expression, for a request and the locals in scope
  pub eval : CelTree → RequestValue → Locals → Option CelAnswer
  eval (constant id v) request ls = Some (value v)
  eval (ident id name) request ls = name_answer request name (local name ls)
  eval (select id operand name test_only) request ls =
      select_answer request (root_of operand ls) (eval operand request ls) name test_only
  eval (call id name on args) request ls =
      call_answer name (eval_target on request ls (eval_each args request ls))
  eval (list_literal id elements) request ls =
      option_and_then collections.list_literal (eval_each elements request ls)
  eval (map_literal id entries) request ls =
      option_and_then collections.map_literal (eval_entries entries request ls)
  eval (comprehension id x y acc range init condition step result) request ls =
      over (variables_of y) (eval range request ls) (λ turns. option_and_then
      (fold (λ vs a. eval condition request (turn_scope x y acc vs a ls))
      (λ vs a. eval step request (turn_scope x y acc vs a ls))
      (λ a. eval result request ((acc, a) ∷ ls)) turns)
      (eval init request ls))

  -- the answers of a call's operands, the target first
  pub eval_target : CelTarget → RequestValue → Locals → Option (List CelAnswer)
      → Option (List CelAnswer)
  eval_target no_target request ls args = args
  eval_target (target on) request ls args = before (eval on request ls) args

  -- the answers of expressions, from left to right
  pub eval_each : CelTrees → RequestValue → Locals → Option (List CelAnswer)
  eval_each no_trees request ls = Some []
  eval_each (tree t ts) request ls = before (eval t request ls) (eval_each ts request ls)

  -- the answers of keys and values, in turn
  pub eval_entries : CelTreeEntries → RequestValue → Locals → Option (List CelAnswer)
  eval_entries no_tree_entries request ls = Some []
  eval_entries (tree_entry id key v es) request ls =
      before (eval key request ls) (before (eval v request ls) (eval_entries es request ls))
