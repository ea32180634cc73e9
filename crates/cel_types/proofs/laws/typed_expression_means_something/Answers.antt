use Rattle.std.proofs.Common.{[], subst}
use Rattle.cel_value.specs.Types.{AnswerHasType}
use Rattle.cel_types.specs.Typing.{maps_of}
use Rattle.cel_types.proofs.Elaborating.{elaborated}
use Rattle.cel_types.proofs.MeansTheSame.{meaning_typed}
use Rattle.cel_types.proofs.laws.typed_expression_means_something.Goals as goal

pub returns : goal.returns
returns c d t r g good sound =
    let e = elaborated (maps_of d) [] d.tree t g.types in
    let a = meaning_typed (maps_of d) r sound d.tree e.0 good e.1 in
    (a.0, a.1, subst (AnswerHasType a.0) e.2 a.2)
