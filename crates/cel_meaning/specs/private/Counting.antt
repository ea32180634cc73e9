-- The steps of the plain evaluator's functions.
use Rattle.std.specs.Prelude.{ℕ, ◌+◌, if◌then◌else◌, is_some, List}
use Rattle.attributes.specs.Request.{RequestValue}
use Rattle.cel_tree.specs.Tree.{CelTree}
use Rattle.cel_tree.specs.View.{LoopParts}
use Rattle.cel_value.specs.Values.{CelAnswer}
use Rattle.cel_types.specs.Names.{root_of, variables_of}
use Rattle.cel_meaning.specs.Origin.{CelAround, CelPlaced, in_result, placed}
use Rattle.cel_meaning.specs.Places.{placed_view}
use Rattle.cel_meaning.specs.Steps.{after, after_condition, steps, steps_fold, turns_over}
use Rattle.cel_meaning.specs.private.Plain.{turn_around}
use Rattle.cel_meaning.specs.declared.nodes.Turned.{Turned}
use Rattle.cel_meaning.specs.declared.nodes.Turned.TheVariants as outcomes

-- those of a Select's operand
abbrev pub operand_steps : RequestValue → CelAround → CelTree → ℕ
operand_steps r c operand = if is_some (root_of operand c.locals) then 0 else steps r c operand

-- those of a turn, and of what follows it
abbrev pub turn_steps : LoopParts → RequestValue → CelAround → (next : CelPlaced → ℕ) → (ended : ℕ) → ℕ
turn_steps p r c next ended =
    steps r c p.loop_condition + after_condition (placed r c p.loop_condition)
    (steps r c p.loop_step + after (placed r c p.loop_step) next) ended

-- those of the turns of a comprehension from this one on, from this accumulator, and then of its result
abbrev pub turns_steps : LoopParts → RequestValue → CelAround → ℕ → List (List CelAnswer) → CelPlaced → ℕ
turns_steps p r c n each gathered =
    steps_fold (λ n vs a. turn_steps p r (turn_around p c n vs a)) (λ a. steps r (in_result p.accu_var a c) p.result)
    n each gathered

-- those of a comprehension's parts
abbrev pub loop_steps : LoopParts → RequestValue → CelAround → ℕ
loop_steps p r c =
    steps r c p.iter_range + after (placed r c p.iter_range) (λ a. after (turns_over (variables_of p.iter_var2) a.0)
    (λ each. steps r c p.accu_init + after (placed r c p.accu_init) (turns_steps p r c 0 each)))

-- those of what follows a turn
abbrev pub then_steps : Turned → (next : CelPlaced → ℕ) → (ended : ℕ) → ℕ
then_steps (outcomes.Next a) next ended = next (placed_view a)
then_steps outcomes.Ends next ended = ended
then_steps (outcomes.Fails a) next ended = 0
then_steps outcomes.Nothing next ended = 0
