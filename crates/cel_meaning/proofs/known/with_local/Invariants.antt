use Rattle.std.proofs.Common.{◌≡◌, ◌∷◌, take}
use Rattle.cel_value.specs.Texts.{text_view}
use Rattle.cel_meaning.specs.Places.{placed_view}
use Rattle.cel_meaning.specs.private.Plain.{known_view}
use Rattle.cel_meaning.proofs.known.with_local.Given as goal

-- behind the new one stand the first of the others
abbrev pub invariant-loop-outer : goal.invariant-loop-outer
invariant-loop-outer l = known_view l.locals.items
    ≡ (text_view l.name, placed_view l.answer) ∷ known_view (take l.outer-index l.known)
