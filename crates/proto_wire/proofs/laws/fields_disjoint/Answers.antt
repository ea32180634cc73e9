use Rattle.proto_wire.proofs.Unique.{fields_disjoint}
use Rattle.proto_wire.proofs.laws.fields_disjoint.Goals as goal

pub returns : goal.returns
returns c = fields_disjoint
