use Rattle.std.proofs.Common.{◌≡◌, take}
use Rattle.cel_meaning.specs.Origin.{answers_of}
use Rattle.cel_meaning.specs.Places.{locals_view}
use Rattle.cel_meaning.specs.private.Plain.{known_view}
use Rattle.cel_meaning.proofs.known.answers_of_locals.Given as goal

-- the first of the locals, without places
abbrev pub invariant-loop-name : goal.invariant-loop-name
invariant-loop-name l = locals_view l.locals.items ≡ answers_of (known_view (take l.name-index l.known))
