-- The results of the plain evaluator's steps.
use Rattle.std.specs.Prelude.{ℕ, Bool, true, false, ◌&&◌, List, [], ◌∷◌, ◌++◌, Option, Some, None, Result, is_some, map, option_map}
use Rattle.std.specs.declared.alloc.Global.{Global}
use Rattle.std.specs.declared.sync.Arc.{Arc}
use Rattle.std.specs.declared.sync.ArcStr.{ArcStr}
use Rattle.std.specs.Option.{option_and_then}
use Rattle.attributes.specs.Request.{RequestValue}
use Rattle.cel_tree.specs.View.{LoopParts}
use Rattle.cel_value.specs.Keys.{key_of_value}
use Rattle.cel_value.specs.Texts.{text_view}
use Rattle.cel_value.specs.Values.{CelAnswer, CelValue, bool, fails, value}
use Rattle.cel_value.specs.View.{answer_view, value_view}
use Rattle.cel_value.specs.declared.error.CelError.{CelError}
use Rattle.cel_value.specs.declared.value.Value.{Value}
use Rattle.cel_types.specs.Names.{Scope, variables_of}
use Rattle.cel_meaning.specs.Origin.{CelAround, CelPlace, CelPlaced, in_result, in_turn, placed, placed_fold, placed_over}
use Rattle.cel_meaning.specs.Places.{place_view, placed_view}
use Rattle.cel_meaning.specs.declared.around.Around.{Around}
use Rattle.cel_meaning.specs.declared.elements.Turn.{Turn}
use Rattle.cel_meaning.specs.declared.nodes.Turned.{Turned}
use Rattle.cel_meaning.specs.declared.nodes.Turned.TheVariants as outcomes
use Rattle.cel_meaning.specs.declared.place.Place.{Place}
use Rattle.cel_meaning.specs.declared.place.Placed.{Placed}
use Rattle.cel_meaning.specs.declared.way.Way.{Way}
use Rattle.cel_meaning.specs.declared.way.Way.TheVariants as ways

-- a place that may be shared, if there is one
abbrev pub shared_view : Option (Arc Place Global) → Option CelPlace
shared_view place = option_map (λ p. place_view p.value) place

-- the names and placed answers of locals, the innermost first
abbrev pub known_view : List (ArcStr Global × Placed) → Scope CelPlaced
known_view known = map (λ local. (text_view local.0, placed_view local.1)) known

-- what is around a part
abbrev pub around_view : Around → CelAround
around_view a = record { turns = a.turns.now; locals = known_view a.known.now }

-- answers after others
abbrev pub behind : List CelPlaced → Option (List CelPlaced) → Option (List CelPlaced)
behind before found = option_map (λ operands. before ++ operands) found

-- whether the answer is a value of a key's kind
abbrev pub is_key : CelAnswer → Bool
is_key (value v) = is_some (key_of_value v)
is_key (fails e) = false

-- whether the answers are pairs, each with a key first
abbrev pub are_pairs : List CelAnswer → Bool
are_pairs [] = true
are_pairs (a ∷ []) = false
are_pairs (a ∷ b ∷ answers) = is_key a && are_pairs answers

-- the index or the key of a turn, if there are two variables
abbrev pub keys_view : Option (Result Value CelError) → List CelAnswer
keys_view None = []
keys_view (Some a) = answer_view a ∷ []

-- what the variables get in a turn, the innermost first
abbrev pub turn_view : Turn → List CelAnswer
turn_view t = value (value_view t.value) ∷ keys_view t.key

-- turns with an item or a value, and its index or key
abbrev pub keyed_turns : List (CelAnswer × CelValue) → List (List CelAnswer)
keyed_turns pairs = map (λ pair. value pair.1 ∷ pair.0 ∷ []) pairs

-- what is around a turn of this number of a comprehension
abbrev pub turn_around : LoopParts → CelAround → ℕ → List CelAnswer → CelPlaced → CelAround
turn_around p c n vs gathered = in_turn p.iter_var p.iter_var2 p.accu_var n vs gathered c

-- the turns of a comprehension from this one on, from this accumulator, and then its result
abbrev pub turns : LoopParts → RequestValue → CelAround → ℕ → List (List CelAnswer) → CelPlaced → Option CelPlaced
turns p r c n each gathered =
    placed_fold (λ n vs a. placed r (turn_around p c n vs a) p.loop_condition)
    (λ n vs a. placed r (turn_around p c n vs a) p.loop_step)
    (λ a. placed r (in_result p.accu_var a c) p.result) n each gathered

-- the answer of a comprehension
abbrev pub loop_answer : LoopParts → RequestValue → CelAround → Option CelPlaced
loop_answer p r c = placed_over (variables_of p.iter_var2) (placed r c p.iter_range)
    (λ each. option_and_then (turns p r c 0 each) (placed r c p.accu_init))

-- the loop's answer after one turn
abbrev pub turned : Turned → (CelPlaced → Option CelPlaced) → Option CelPlaced → Option CelPlaced
turned (outcomes.Next a) next ended = next (placed_view a)
turned outcomes.Ends next ended = ended
turned (outcomes.Fails a) next ended = Some (placed_view a)
turned outcomes.Nothing next ended = None

-- what a turn does after a condition with this answer
abbrev pub way_of : CelAnswer → Way
way_of (value (bool true)) = ways.Goes
way_of (value (bool false)) = ways.Ends
way_of (fails e) = ways.Fails
way_of (value _) = ways.Nothing
