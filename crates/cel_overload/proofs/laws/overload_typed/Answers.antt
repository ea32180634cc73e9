use Rattle.cel_overload.proofs.TypedCalls.{overload_typed_fact}
use Rattle.cel_overload.proofs.laws.overload_typed.Goals as goal

pub returns : goal.returns
returns c = overload_typed_fact
