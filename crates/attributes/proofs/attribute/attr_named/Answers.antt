-- The table holds each attribute once, and no two have one name.
use Rattle.attributes.proofs.Names.{named_exactly}
use Rattle.attributes.proofs.attribute.attr_named.Goals as goal

pub returns : goal.returns
returns c = named_exactly c.args.name.now c.find_named.result c.find_named.ensures
