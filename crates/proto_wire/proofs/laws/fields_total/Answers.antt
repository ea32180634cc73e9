use Rattle.proto_wire.proofs.Unique.{fields_total}
use Rattle.proto_wire.proofs.laws.fields_total.Goals as goal

pub returns : goal.returns
returns c = fields_total
