use Rattle.proto_wire.proofs.ShortestLemmas.{shortest_unique}
use Rattle.proto_wire.proofs.laws.shortest_unique.Goals as goal

pub returns : goal.returns
returns c = shortest_unique
