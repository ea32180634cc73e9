use Rattle.cel_value.proofs.Extensional.{same_map}
use Rattle.cel_value.proofs.laws.maps_are_functions.Goals as goal

pub returns : goal.returns
returns c = same_map
