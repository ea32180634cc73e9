use Rattle.std.proofs.Common.{refl}
use Rattle.std.proofs.lemmas.Result.{IfOk-weaker}
use Rattle.xds_wire.specs.Discovery.{IsRequest, RequestFault}
use Rattle.xds_wire.specs.View.{request_view}
use Rattle.ads.specs.private.Serving.{a_request, no_request}
use Rattle.ads.proofs.AnswerLemmas.{read_fault, read_found}
use Rattle.ads.proofs.serving.serve.Goals as goal

pub returns-in-Ok : goal.returns-in-Ok
returns-in-Ok c =
    let reads = read_found (λ r. IsRequest c.args.message.now (request_view r)) c.read_request.result
    c.in_ok-request.field-0 c.in-Ok.request c.in_ok-request.ensures.found.0 c.in-Ok.is c.read_request.ensures.found in
    IfOk-weaker c.take_request.result _ _ (λ reason is. a_request (request_view c.in-Ok.request) reads is)
    c.take_request.ensures

pub returns-in-Err : goal.returns-in-Err
returns-in-Err c =
    let fault = read_fault (RequestFault c.args.message.now) c.read_request.result c.in_ok-request.field-0
    c.in-Err.refusal c.in_ok-request.ensures.found.0 c.in_ok-request.ensures.found.1 c.in-Err.is
    c.read_request.ensures.fault in
    no_request c.in-Err.refusal fault refl refl
