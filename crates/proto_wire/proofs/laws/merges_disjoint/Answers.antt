use Rattle.proto_wire.proofs.Unique.{merges_disjoint}
use Rattle.proto_wire.proofs.laws.merges_disjoint.Goals as goal

pub returns : goal.returns
returns c = merges_disjoint
