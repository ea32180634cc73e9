use Rattle.check_request.proofs.AnswerUnique.{answer_unique}
use Rattle.check_request.proofs.laws.answer_unique.Goals as goal

pub returns : goal.returns
returns c = answer_unique
