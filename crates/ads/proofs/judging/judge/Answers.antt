use Rattle.std.proofs.lemmas.Result.{IfOk-weaker}
use Rattle.xds_wire.specs.View.{response_view}
use Rattle.ads.proofs.JudgedLemmas.{judged_is, runs_out}
use Rattle.ads.proofs.judging.judge.Goals as goal

pub returns-clause-found : goal.returns-clause-found
returns-clause-found c =
    IfOk-weaker c.judgement.result _ _
    (λ j same. judged_is c.args.config.now (response_view c.args.response.now) c.given_by.result
    c.given_by.ensures.found c.given_by.ensures.fault j same)
    c.judgement.ensures.found

pub returns-clause-fault : goal.returns-clause-fault
returns-clause-fault c =
    runs_out c.args.config.now (response_view c.args.response.now) c.given_by.result c.judgement.result
    c.given_by.ensures.fault c.judgement.ensures.fault
