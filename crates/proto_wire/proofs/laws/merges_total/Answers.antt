use Rattle.proto_wire.proofs.Unique.{merges_total}
use Rattle.proto_wire.proofs.laws.merges_total.Goals as goal

pub returns : goal.returns
returns c = merges_total
