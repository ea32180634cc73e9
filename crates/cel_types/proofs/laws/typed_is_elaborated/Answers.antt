use Rattle.std.proofs.Common.{[], sym, subst}
use Rattle.cel_types.specs.Typing.{maps_of}
use Rattle.cel_types.specs.TypingFaults.{IsTyped}
use Rattle.cel_types.proofs.Elaborating.{elaborated}
use Rattle.cel_types.proofs.laws.typed_is_elaborated.Goals as goal

pub returns : goal.returns
returns c d t g =
    let e = elaborated (maps_of d) [] d.tree t g.types in (
      e.0,
      record { typed = subst (λ u. IsTyped d u) (sym e.2) g; elaborates = e.1 },
      e.2,
    )
