use Rattle.std.proofs.Common.{◌∙◌}
use Rattle.std.proofs.lemmas.Result.{err_from_is_err_and}
use Rattle.xds_wire.specs.View.{extension_view}
use Rattle.ads.specs.Judgements.{another_type, message_refused}
use Rattle.ads.proofs.JudgedLemmas.{admitted_gives}
use Rattle.ads.proofs.judging.admit_extension.Goals as goal

pub returns-in_err-message-clause-fault : goal.returns-in_err-message-clause-fault
returns-in_err-message-clause-fault c =
    let left = err_from_is_err_and c.from_residual.result c.from_residual.ensures.1 in
    let fault = c.in_err-message.ensures.fault in
    rw left.1 (λ name xs one. another_type (extension_view c.args.extension.now) one fault.1 (left.2.0 ∙ fault.0)
    left.2.2)

pub returns-in-Ok-clause-found : goal.returns-in-Ok-clause-found
returns-in-Ok-clause-found c =
    admitted_gives c.args.limits.now c.args.budget (extension_view c.args.extension.now) c.in_ok-message.message.now
    c.in_ok-message.ensures.found c.admit_at.result c.admit_at.ensures.found c.admit_at.ensures.limits
    c.in-Ok.admitted c.in-Ok.is

pub returns-in-Err-clause-fault : goal.returns-in-Err-clause-fault
returns-in-Err-clause-fault c = λ name xs one.
    message_refused (extension_view c.args.extension.now, one, c.in_ok-message.ensures.found)
    (rw c.in-Err.is at c.admit_at.ensures.fault) c.admit_at.new.left (rw c.in-Err.is at c.admit_at.ensures.place)
