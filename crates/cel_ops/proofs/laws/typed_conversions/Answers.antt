use Rattle.cel_ops.proofs.Conversions.{conversion_typed}
use Rattle.cel_ops.proofs.laws.typed_conversions.Goals as goal

pub returns : goal.returns
returns c = conversion_typed
