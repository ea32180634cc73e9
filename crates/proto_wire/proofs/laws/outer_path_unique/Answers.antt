use Rattle.proto_wire.proofs.Places.{outer_path_unique}
use Rattle.proto_wire.proofs.laws.outer_path_unique.Goals as goal

pub returns : goal.returns
returns c = outer_path_unique
