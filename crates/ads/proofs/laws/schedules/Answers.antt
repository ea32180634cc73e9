use Rattle.ads.proofs.ScheduleLemmas.{always_in_step}
use Rattle.ads.proofs.laws.schedules.Goals as goal

pub returns : goal.returns
returns c = always_in_step
