use Rattle.attributes.proofs.Names.{attr_name_unique}
use Rattle.attributes.proofs.laws.attribute_name_unique.Goals as goal

pub returns : goal.returns
returns c = attr_name_unique
