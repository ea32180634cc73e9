use Rattle.std.proofs.Common.{[]}
use Rattle.cel_types.specs.Typing.{maps_of}
use Rattle.cel_types.proofs.WellTypedElaborations.{elaborated_typed}
use Rattle.cel_types.proofs.laws.elaboration_is_well_typed.Goals as goal

pub returns : goal.returns
returns c d e good g = elaborated_typed (maps_of d) [] d.tree e good g.elaborates
