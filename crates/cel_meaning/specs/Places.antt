-- The places and locals that values of the code mean.
use Rattle.std.specs.Prelude.{Bool, true, false, List, [], map, Result, option_map}
use Rattle.std.specs.declared.alloc.Global.{Global}
use Rattle.std.specs.declared.sync.ArcStr.{ArcStr}
use Rattle.cel_tree.specs.View.{tree_view}
use Rattle.cel_value.specs.Texts.{text_view}
use Rattle.cel_value.specs.Values.{CelAnswer, fails, value}
use Rattle.cel_value.specs.View.{answer_view}
use Rattle.cel_value.specs.declared.error.CelError.{CelError}
use Rattle.cel_value.specs.declared.value.Value.{Value}
use Rattle.cel_types.specs.Meaning.{Locals}
use Rattle.cel_meaning.specs.Origin.{CelAround, CelPlace, CelPlaced, bare}
use Rattle.cel_meaning.specs.declared.place.Place.{Place}
use Rattle.cel_meaning.specs.declared.place.Placed.{Placed}

-- the names and answers of locals, the innermost first
abbrev pub locals_view : List (ArcStr Global × Result Value CelError) → Locals
locals_view known = map (λ local. (text_view local.0, answer_view local.1)) known

-- where an error begins
abbrev pub place_view : Place → CelPlace
place_view p = record { part = tree_view p.part.now; turns = p.turns.items; locals = locals_view p.locals.items }

-- an answer and its place
abbrev pub placed_view : Placed → CelPlaced
placed_view a = (answer_view a.answer, option_map (λ p. place_view p.value) a.place)

-- the locals without places, in no turn
abbrev pub around : Locals → CelAround
around ls = record { turns = []; locals = map (λ l. (l.0, bare l.1)) ls }

-- what is around the part at which an error begins, without the places of its locals
abbrev pub place_around : CelPlace → CelAround
place_around place = record { turns = place.turns; locals = (around place.locals).locals }

-- whether the answer is an error
abbrev pub is_error : CelAnswer → Bool
is_error (fails e) = true
is_error (value v) = false
