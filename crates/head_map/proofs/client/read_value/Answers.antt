use Rattle.std.proofs.Common.{refl}
use Rattle.head_map.specs.Mapped.{unreadable}
use Rattle.head_map.proofs.client.read_value.Goals as goal

pub returns-in-None : goal.returns-in-None
returns-in-None c = λ lines one. unreadable c.args.value.now one c.in-None.ensures refl
