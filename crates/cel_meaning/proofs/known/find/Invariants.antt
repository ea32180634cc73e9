use Rattle.std.proofs.Common.{◌≡◌, drop}
use Rattle.cel_value.specs.Texts.{text_view}
use Rattle.cel_types.specs.Names.{local}
use Rattle.cel_meaning.specs.private.Plain.{known_view}
use Rattle.cel_meaning.proofs.known.find.Given as goal

-- the innermost local of the name is that of the locals that are left
abbrev pub invariant-loop-own : goal.invariant-loop-own
invariant-loop-own l = local (text_view l.name) (known_view (drop l.own-index l.known))
    ≡ local (text_view l.name) (known_view l.known)
