use Rattle.cel_read.proofs.CheckedLaws.{checked_total}
use Rattle.cel_read.proofs.laws.checked_total.Goals as goal

pub returns : goal.returns
returns c = checked_total
