use Rattle.check_request.proofs.AnswerBack.{answer_back}
use Rattle.check_request.proofs.laws.answer_reads_back.Goals as goal

pub returns : goal.returns
returns c = answer_back
