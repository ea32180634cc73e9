use Rattle.std.proofs.Common.{refl}
use Rattle.xds_wire.specs.Discovery.{IsResponse, ResponseFault}
use Rattle.xds_wire.specs.View.{response_view}
use Rattle.ads.proofs.AnswerLemmas.{read_fault, read_found}
use Rattle.ads.proofs.answer.answer.Goals as goal

pub returns-in_ok-answer_response-in-Ok-clause-answered : goal.returns-in_ok-answer_response-in-Ok-clause-answered
returns-in_ok-answer_response-in-Ok-clause-answered c old = (
  response_view c.in-Ok.response,
  read_found (λ r. IsResponse c.args.message.now (response_view r)) c.read_response.result
      c.in_ok-response.field-0 c.in-Ok.response c.in_ok-response.ensures.found.0 c.in-Ok.is
      c.read_response.ensures.found,
  c.in_ok-answer_response-in-Ok.ensures.answered old,
)

pub returns-in-Err-clause-answered : goal.returns-in-Err-clause-answered
returns-in-Err-clause-answered c old = (
  c.in-Err.refusal,
  read_fault (ResponseFault c.args.message.now) c.read_response.result c.in_ok-response.field-0 c.in-Err.refusal
      c.in_ok-response.ensures.found.0 c.in_ok-response.ensures.found.1 c.in-Err.is c.read_response.ensures.fault,
  refl,
  refl,
  refl,
  refl,
)
