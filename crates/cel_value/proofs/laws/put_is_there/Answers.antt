use Rattle.cel_value.proofs.Places.{get_put}
use Rattle.cel_value.proofs.laws.put_is_there.Goals as goal

pub returns : goal.returns
returns c = get_put
