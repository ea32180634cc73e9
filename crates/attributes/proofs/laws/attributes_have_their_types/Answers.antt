use Rattle.attributes.proofs.TypedAttributes.{attr_typed}
use Rattle.attributes.proofs.laws.attributes_have_their_types.Goals as goal

pub returns : goal.returns
returns c = λ r id sound. attr_typed r sound id
