use Rattle.cel_value.proofs.TextOrder.{encodes_cmp}
use Rattle.cel_value.proofs.laws.texts_stand_as_their_bytes.Goals as goal

pub returns : goal.returns
returns c = encodes_cmp
