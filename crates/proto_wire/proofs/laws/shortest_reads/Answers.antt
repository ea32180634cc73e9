use Rattle.proto_wire.proofs.ShortestLemmas.{shortest_reads}
use Rattle.proto_wire.proofs.laws.shortest_reads.Goals as goal

pub returns : goal.returns
returns c = shortest_reads
