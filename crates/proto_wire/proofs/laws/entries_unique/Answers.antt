use Rattle.proto_wire.proofs.MapLaws.{entries_unique}
use Rattle.proto_wire.proofs.laws.entries_unique.Goals as goal

pub returns : goal.returns
returns c = entries_unique
