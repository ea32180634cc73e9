use Rattle.proto_wire.proofs.Unique.{fields_unique}
use Rattle.proto_wire.proofs.laws.fields_unique.Goals as goal

pub returns : goal.returns
returns c = fields_unique
