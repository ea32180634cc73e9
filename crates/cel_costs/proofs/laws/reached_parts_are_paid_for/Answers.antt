use Rattle.cel_costs.proofs.Reached.{reached_paid}
use Rattle.cel_costs.proofs.laws.reached_parts_are_paid_for.Goals as goal

pub returns : goal.returns
returns c e r l p ls sizes g sound fits there = reached_paid r sound l fits e g p ls sizes there
