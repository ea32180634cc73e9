use Rattle.cel_types.proofs.CheckNames.{attribute_points}
use Rattle.cel_types.proofs.names.attribute_named.Goals as goal

pub returns : goal.returns
returns c = attribute_points c.args.name.now c.utf8.name c.attr_named.result c.attr_named.ensures
