use Rattle.proto_wire.proofs.MapLaws.{entries_disjoint}
use Rattle.proto_wire.proofs.laws.entries_disjoint.Goals as goal

pub returns : goal.returns
returns c = entries_disjoint
