-- By the steps, the latest last.
use Rattle.serve_observe.proofs.MinutesApart.{minutes_apart}
use Rattle.serve_observe.proofs.laws.at_most_one_line_a_minute.Goals as goal

pub returns : goal.returns
returns g c = minutes_apart
