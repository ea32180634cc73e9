use Rattle.cel_types.proofs.CheckLaws.{agreeing_typed, typed_agreeing}
use Rattle.cel_types.proofs.laws.typed_is_agreeing.Goals as goal

pub returns : goal.returns
returns c x t = (typed_agreeing x t, agreeing_typed x t)
