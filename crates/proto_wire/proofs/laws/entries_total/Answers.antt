use Rattle.proto_wire.proofs.MapLaws.{entries_total}
use Rattle.proto_wire.proofs.laws.entries_total.Goals as goal

pub returns : goal.returns
returns c = entries_total
