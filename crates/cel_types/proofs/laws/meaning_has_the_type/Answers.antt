use Rattle.cel_types.specs.Typing.{maps_of}
use Rattle.cel_types.proofs.MeansTheSame.{meaning_typed}
use Rattle.cel_types.proofs.laws.meaning_has_the_type.Goals as goal

pub returns : goal.returns
returns c d e r good g sound = meaning_typed (maps_of d) r sound d.tree e good g.elaborates
