use Rattle.proto_wire.proofs.Unique.{merges_unique}
use Rattle.proto_wire.proofs.laws.merges_unique.Goals as goal

pub returns : goal.returns
returns c = merges_unique
