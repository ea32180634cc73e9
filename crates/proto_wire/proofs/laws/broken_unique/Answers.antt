use Rattle.proto_wire.proofs.Unique.{broken_unique}
use Rattle.proto_wire.proofs.laws.broken_unique.Goals as goal

pub returns : goal.returns
returns c = broken_unique
