use Rattle.std.proofs.Common.{◌≡◌, take}
use Rattle.cel_meaning.specs.Places.{around, locals_view}
use Rattle.cel_meaning.specs.private.Plain.{known_view}
use Rattle.cel_meaning.proofs.known.bare_locals.Given as goal

-- the first of the locals, as placed ones
abbrev pub invariant-loop-name : goal.invariant-loop-name
invariant-loop-name l = known_view l.known.items ≡ (around (locals_view (take l.name-index l.locals))).locals
