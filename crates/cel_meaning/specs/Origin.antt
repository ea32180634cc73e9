-- Evaluation that reports where an error begins. What an error is: CEL language definition, "Runtime Errors". Which place
-- it reports is this project's own choice.
use Rattle.std.specs.Prelude.{ℕ, ◌+◌, true, false, List, [], ◌∷◌, map, Option, Some, None, option_map}
use Rattle.std.specs.Option.{option_and_then}
use Rattle.attributes.specs.Request.{RequestValue}
use Rattle.cel_value.specs.Values.{bool, CelAnswer, value, fails}
use Rattle.cel_tree.specs.Tree.{CelTree, constant, ident, select, call, list_literal, map_literal, comprehension, CelTarget, no_target, target, CelTrees, no_trees, tree, CelTreeEntries, no_tree_entries, tree_entry}
use Rattle.cel_ops.specs.Collections as collections
use Rattle.cel_overload.specs.Functions.{function_named}
use Rattle.cel_overload.specs.declared.function.Function.{Function}
use Rattle.cel_overload.specs.declared.function.Function.TheVariants.{Conditional}
use Rattle.cel_types.specs.Meaning.{Locals, call_answer, name_answer, select_answer, turns_of}
use Rattle.cel_types.specs.Names.{Scope, local, root_of, turn_scope, variables_of}
use Rattle.cel_types.specs.declared.typed.Variables.{Variables}

-- where an error begins: a part of the expression, with the numbers of the turns around it and the answers of the locals
-- there. The innermost turn is first
pub record CelPlace : Type 0 where
  pub part : CelTree
  pub turns : List ℕ
  pub locals : Locals

-- an answer, and where it begins if it is an error
abbrev pub CelPlaced : Type 0
CelPlaced = CelAnswer × Option CelPlace

-- what is around a part: the numbers of turns, the innermost first, and the locals
pub record CelAround : Type 0 where
  pub turns : List ℕ
  pub locals : Scope CelPlaced

-- an answer without a place
abbrev pub bare : CelAnswer → CelPlaced
bare a = (a, None)

-- the locals without places
abbrev pub answers_of : Scope CelPlaced → Locals
answers_of ls = map (λ l. (l.0, l.1.0)) ls

-- an error begins in an operand, if there is a place, or else at the expression itself
abbrev pub begins : CelTree → CelAround → (inner : Option CelPlace) → CelPlace
begins t c None = record { part = t; turns = c.turns; locals = answers_of c.locals }
begins t c (Some place) = place

-- the answer of an expression, with its place if it is an error
abbrev pub settled : CelTree → CelAround → Option CelAnswer → (inner : Option CelPlace) → Option CelPlaced
settled t c None inner = None
settled t c (Some (value v)) inner = Some (value v, None)
settled t c (Some (fails e)) inner = Some (fails e, Some (begins t c inner))

-- ---- places of operands

-- the place of an answer, if there is one
abbrev pub place_of : Option CelPlaced → Option CelPlace
place_of None = None
place_of (Some a) = a.1

-- that of a Select's operand; a root has none
abbrev pub select_place : (root : Option (List ℕ)) → Option CelPlaced → Option CelPlace
select_place (Some root) operand = None
select_place None operand = place_of operand

-- the leftmost place
abbrev pub first_place : List CelPlaced → Option CelPlace
first_place [] = None
first_place ((a, None) ∷ others) = first_place others
first_place ((a, Some place) ∷ others) = Some place

-- the place in a choice: in the branch that it takes, or else in its condition
abbrev pub choice_place : List CelPlaced → Option CelPlace
choice_place ((value (bool true), _) ∷ a ∷ b ∷ []) = a.1
choice_place ((value (bool false), _) ∷ a ∷ b ∷ []) = b.1
choice_place operands = first_place operands

-- the place in a call's operands
abbrev pub call_place : Option Function → List CelPlaced → Option CelPlace
call_place (Some Conditional) operands = choice_place operands
call_place _ operands = first_place operands

-- ---- comprehensions

-- what is around a turn of this number: its variables and the accumulator are further locals
abbrev pub in_turn : (x y acc : List ℕ) → ℕ → List CelAnswer → CelPlaced → CelAround → CelAround
in_turn x y acc n vs gathered c = record {
  turns = n ∷ c.turns;
  locals = turn_scope x y acc (map bare vs) gathered c.locals;
}

-- what is around the result
abbrev pub in_result : (acc : List ℕ) → CelPlaced → CelAround → CelAround
in_result acc gathered c = record { turns = c.turns; locals = (acc, gathered) ∷ c.locals }

-- one turn, by its condition
abbrev pub placed_turn : (condition step : Option CelPlaced) → (next : CelPlaced → Option CelPlaced)
    → (ended : Option CelPlaced) → Option CelPlaced
placed_turn (Some (value (bool true), _)) (Some a) next ended = next a
placed_turn (Some (value (bool false), _)) step next ended = ended
placed_turn (Some (fails e, place)) step next ended = Some (fails e, place)
placed_turn _ _ next ended = None

-- these turns, the first of this number, from this accumulator, and then the result
abbrev pub placed_fold : (condition step : ℕ → List CelAnswer → CelPlaced → Option CelPlaced)
    → (result : CelPlaced → Option CelPlaced) → ℕ → List (List CelAnswer) → CelPlaced → Option CelPlaced
placed_fold condition step result n [] gathered = result gathered
placed_fold condition step result n (vs ∷ turns) gathered =
    placed_turn (condition n vs gathered) (step n vs gathered) (placed_fold condition step result (n + 1) turns)
    (result gathered)

-- a loop over a range
abbrev pub placed_over : Variables → Option CelPlaced → (List (List CelAnswer) → Option CelPlaced) → Option CelPlaced
placed_over variables None go = None
placed_over variables (Some (fails e, place)) go = Some (fails e, place)
placed_over variables (Some (value v, _)) go = option_and_then go (turns_of variables v)

-- ---- one equation for each kind of node

-- an answer, and then others
abbrev pub placed_before : Option CelPlaced → Option (List CelPlaced) → Option (List CelPlaced)
placed_before None others = None
placed_before (Some a) None = None
placed_before (Some a) (Some others) = Some (a ∷ others)

abbrev mutual
  -- the answer of an expression, and where it begins if it is an error. An error begins in the leftmost operand that is an
  -- error, as long as there is one. Errors that `&&` or `||` absorbs, or in a branch that is not taken, do not count. A
  -- comprehension passes on an error of its range, of a condition, or of its result
  pub placed : RequestValue → CelAround → CelTree → Option CelPlaced
  placed r c (constant id v) = Some (value v, None)
  placed r c (ident id name) = settled (ident id name) c
      (name_answer r name (option_map (λ a. a.0) (local name c.locals))) (place_of (local name c.locals))
  placed r c (select id operand name test_only) = settled (select id operand name test_only) c
      (select_answer r (root_of operand c.locals) (option_map (λ a. a.0) (placed r c operand)) name test_only)
      (select_place (root_of operand c.locals) (placed r c operand))
  placed r c (call id name on args) = option_and_then
      (λ operands. settled (call id name on args) c (call_answer name (Some (map (λ a. a.0) operands)))
      (call_place (function_named name) operands)) (placed_target r c on (placed_each r c args))
  placed r c (list_literal id elements) = option_and_then
      (λ operands. settled (list_literal id elements) c (collections.list_literal (map (λ a. a.0) operands))
      (first_place operands)) (placed_each r c elements)
  placed r c (map_literal id entries) = option_and_then
      (λ operands. settled (map_literal id entries) c (collections.map_literal (map (λ a. a.0) operands))
      (first_place operands)) (placed_entries r c entries)
  placed r c (comprehension id x y acc range init condition step result) =
      placed_over (variables_of y) (placed r c range) (λ turns. option_and_then
      (placed_fold (λ n vs a. placed r (in_turn x y acc n vs a c) condition)
      (λ n vs a. placed r (in_turn x y acc n vs a c) step)
      (λ a. placed r (in_result acc a c) result) 0 turns)
      (placed r c init))

  -- those of a call's operands, the target first
  pub placed_target : RequestValue → CelAround → CelTarget → Option (List CelPlaced) → Option (List CelPlaced)
  placed_target r c no_target args = args
  placed_target r c (target on) args = placed_before (placed r c on) args

  -- those of expressions, from left to right
  pub placed_each : RequestValue → CelAround → CelTrees → Option (List CelPlaced)
  placed_each r c no_trees = Some []
  placed_each r c (tree t ts) = placed_before (placed r c t) (placed_each r c ts)

  -- those of keys and values, in turn
  pub placed_entries : RequestValue → CelAround → CelTreeEntries → Option (List CelPlaced)
  placed_entries r c no_tree_entries = Some []
  placed_entries r c (tree_entry id key v es) =
      placed_before (placed r c key) (placed_before (placed r c v) (placed_entries r c es))
