-- How many steps an evaluation takes: one for each part of the expression that is evaluated, in a comprehension once for
-- each turn. That is this project's own measure: CEL does not count. Parts are evaluated from left to right, up to one
-- without a meaning.
use Rattle.std.specs.Prelude.{ℕ, ◌+◌, true, false, if◌then◌else◌, List, [], ◌∷◌, Option, Some, None, is_some}
use Rattle.attributes.specs.Request.{RequestValue}
use Rattle.cel_value.specs.Values.{bool, CelAnswer, value, fails}
use Rattle.cel_tree.specs.Tree.{CelTree, constant, ident, select, call, list_literal, map_literal, comprehension, CelTarget, no_target, target, CelTrees, no_trees, tree, CelTreeEntries, no_tree_entries, tree_entry}
use Rattle.cel_types.specs.Meaning.{turns_of}
use Rattle.cel_types.specs.Names.{root_of, variables_of}
use Rattle.cel_types.specs.declared.typed.Variables.{Variables}
use Rattle.cel_meaning.specs.Origin.{CelAround, CelPlaced, in_result, in_turn, placed}

-- steps that follow something, if it is there
abbrev pub after : {A : Type 0} → Option A → (A → ℕ) → ℕ
after None rest = 0
after (Some a) rest = rest a

-- what the variables get in each turn over an answer; there are no turns over an error
abbrev pub turns_over : Variables → CelAnswer → Option (List (List CelAnswer))
turns_over variables (value v) = turns_of variables v
turns_over variables (fails e) = None

-- the steps after a turn's condition: those of its step and of the next turns, or those of the result
abbrev pub after_condition : (condition : Option CelPlaced) → (going ended : ℕ) → ℕ
after_condition (Some (value (bool true), _)) going ended = going
after_condition (Some (value (bool false), _)) going ended = ended
after_condition _ going ended = 0

-- those of these turns, the first of this number, from this accumulator, and then of the result
abbrev pub steps_fold : (turn : ℕ → List CelAnswer → CelPlaced → (next : CelPlaced → ℕ) → (ended : ℕ) → ℕ)
    → (result : CelPlaced → ℕ) → ℕ → List (List CelAnswer) → CelPlaced → ℕ
steps_fold turn result n [] gathered = result gathered
steps_fold turn result n (vs ∷ turns) gathered =
    turn n vs gathered (steps_fold turn result (n + 1) turns) (result gathered)

abbrev mutual
  -- the steps of an expression: its own, and those of its parts. All operands are evaluated, also those of `&&`, `||` and
  -- `?:`. The operand of a Select is not, if it is a root. A comprehension ends with an error of its range or of a
  -- condition
  pub steps : RequestValue → CelAround → CelTree → ℕ
  steps r c (constant id v) = 1
  steps r c (ident id name) = 1
  steps r c (select id operand name test_only) = 1 + (if is_some (root_of operand c.locals) then 0 else steps r c operand)
  steps r c (call id name on args) = 1 + steps_target r c on (steps_each r c args)
  steps r c (list_literal id elements) = 1 + steps_each r c elements
  steps r c (map_literal id entries) = 1 + steps_entries r c entries
  steps r c (comprehension id x y acc range init condition step result) =
      1 + (steps r c range + after (placed r c range) (λ a. after (turns_over (variables_of y) a.0) (λ turns.
      steps r c init + after (placed r c init) (steps_fold (λ n vs a next ended.
      let inside = in_turn x y acc n vs a c in
      steps r inside condition + after_condition (placed r inside condition)
      (steps r inside step + after (placed r inside step) next) ended)
      (λ a. steps r (in_result acc a c) result) 0 turns))))

  -- those of a call's target, and then of its other operands
  pub steps_target : RequestValue → CelAround → CelTarget → (others : ℕ) → ℕ
  steps_target r c no_target others = others
  steps_target r c (target on) others = steps r c on + after (placed r c on) (λ _. others)

  -- those of expressions
  pub steps_each : RequestValue → CelAround → CelTrees → ℕ
  steps_each r c no_trees = 0
  steps_each r c (tree t ts) = steps r c t + after (placed r c t) (λ _. steps_each r c ts)

  -- those of keys and values, in turn
  pub steps_entries : RequestValue → CelAround → CelTreeEntries → ℕ
  steps_entries r c no_tree_entries = 0
  steps_entries r c (tree_entry id key v es) = steps r c key + after (placed r c key) (λ _.
      steps r c v + after (placed r c v) (λ _. steps_entries r c es))
