use Rattle.proto_wire.proofs.Messages.{message_total}
use Rattle.proto_wire.proofs.laws.message_total.Goals as goal

pub returns : goal.returns
returns c = message_total
