use Rattle.proto_wire.proofs.Messages.{message_unique}
use Rattle.proto_wire.proofs.laws.message_unique.Goals as goal

pub returns : goal.returns
returns c = message_unique
