use Rattle.std.proofs.Common.{refl}
use Rattle.attributes.proofs.Names.{named_exactly}
use Rattle.cel_types.specs.Attributes.{attribute_named}
use Rattle.cel_types.proofs.laws.attribute_is_named.Goals as goal

pub returns : goal.returns
returns c name = named_exactly name (attribute_named name) refl
