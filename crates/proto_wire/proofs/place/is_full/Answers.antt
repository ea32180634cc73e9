use Rattle.std.proofs.Common.{not, ap}
use Rattle.proto_wire.proofs.Places.{six_or_fewer}
use Rattle.proto_wire.proofs.place.is_full.Goals as goal

pub returns : goal.returns
returns c = six_or_fewer c.args.words.now _ c.told-words (ap not c.contains.ensures.value)
