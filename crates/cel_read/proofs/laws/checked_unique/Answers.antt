use Rattle.cel_read.proofs.CheckedLaws.{checked_unique}
use Rattle.cel_read.proofs.laws.checked_unique.Goals as goal

pub returns : goal.returns
returns c = checked_unique
