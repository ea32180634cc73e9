use Rattle.proto_wire.proofs.Messages.{message_disjoint}
use Rattle.proto_wire.proofs.laws.message_disjoint.Goals as goal

pub returns : goal.returns
returns c = message_disjoint
