use Rattle.cel_read.proofs.IdLaws.{checked_ids}
use Rattle.cel_read.proofs.laws.ids_are_int64.Goals as goal

pub returns : goal.returns
returns c = checked_ids
