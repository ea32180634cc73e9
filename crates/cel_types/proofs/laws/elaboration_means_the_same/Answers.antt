use Rattle.std.proofs.Common.{[]}
use Rattle.cel_types.specs.Typing.{maps_of}
use Rattle.cel_types.proofs.MeansTheSame.{means_same}
use Rattle.cel_types.proofs.laws.elaboration_means_the_same.Goals as goal

pub returns : goal.returns
returns c d e r good g sound = means_same (maps_of d) r sound d.tree e [] tt good g.elaborates
