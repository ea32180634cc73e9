use Rattle.proto_wire.proofs.Unique.{merges_joined}
use Rattle.proto_wire.proofs.laws.merges_joined.Goals as goal

pub returns : goal.returns
returns c = merges_joined
