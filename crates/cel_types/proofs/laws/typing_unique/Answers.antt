use Rattle.std.proofs.Common.{[]}
use Rattle.cel_types.specs.Typing.{maps_of}
use Rattle.cel_types.proofs.OneType.{one_type}
use Rattle.cel_types.proofs.laws.typing_unique.Goals as goal

pub returns : goal.returns
returns c e s t g h = one_type (maps_of e) [] e.tree s t g.types h.types
