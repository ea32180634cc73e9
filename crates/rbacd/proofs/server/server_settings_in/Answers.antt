use Rattle.std.proofs.Common.{inr, refl}
use Rattle.rbacd.proofs.server.server_settings_in.Goals as goal

pub returns-clause-fault : goal.returns-clause-fault
returns-clause-fault g c = inr (inr (c.in_ok-text.text.items, c.in_ok-text.ensures.found, refl))
