-- What a `Note` makes of the turns so far.
use Rattle.std.specs.Prelude.{List, ◌∷◌}
use Rattle.serve_loop.specs.History.{Turn, took, gave, answered, no_memory}
use Rattle.serve_loop.specs.Events.{event_view}
use Rattle.serve_trace.specs.declared.Note.{Note}
use Rattle.serve_trace.specs.declared.Note.TheVariants as note

-- the turns so far, and the one that the note adds
abbrev pub noted : {F : Type 0} → List (Turn F) → Note F → List (Turn F)
noted turns (note.Took event) = took (event_view event.now) no_memory ∷ turns
noted turns (note.Answered event out closes) = took (event_view event.now) (answered out.now closes) ∷ turns
noted turns (note.Sent s bytes) = gave s bytes.now ∷ turns
