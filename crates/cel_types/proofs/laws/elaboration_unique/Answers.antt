use Rattle.std.proofs.Common.{[]}
use Rattle.cel_types.specs.Typing.{maps_of}
use Rattle.cel_types.proofs.OneElaboration.{one_elaboration}
use Rattle.cel_types.proofs.laws.elaboration_unique.Goals as goal

pub returns : goal.returns
returns c d e f g h = one_elaboration (maps_of d) [] d.tree e f g.elaborates h.elaborates
