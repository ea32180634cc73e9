use Rattle.std.proofs.Common.{[]}
use Rattle.cel_types.proofs.WellTypedAnswers.{answer_typed}
use Rattle.cel_types.proofs.laws.typed_answers_have_their_type.Goals as goal

pub returns : goal.returns
returns c e r g sound = answer_typed r sound e [] [] tt g
