-- By the law of the loop, and the headline of a worker.
use Rattle.serve_core.proofs.Wire.{wire_headline}
use Rattle.serve_core.proofs.laws.the_wire_has_the_headline.Goals as goal

pub returns : goal.returns
returns c = wire_headline
