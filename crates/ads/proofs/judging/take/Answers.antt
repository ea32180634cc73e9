use Rattle.std.proofs.Common.{◌∙◌, map}
use Rattle.std.proofs.lemmas.Result.{err_from_is_err_and}
use Rattle.xds_wire.specs.View.{extension_view}
use Rattle.ads.specs.Judgements.{two_extensions}
use Rattle.ads.proofs.judging.take.Goals as goal

pub returns-in_err-find-clause-fault : goal.returns-in_err-find-clause-fault
returns-in_err-find-clause-fault c =
    let left = err_from_is_err_and c.from_residual.result c.from_residual.ensures.1 in
    let fault = c.in_err-find.ensures.fault in
    let two = fault.0 in
    rw left.1 (two_extensions two.0 two.1 two.2 two.3 (left.2.0 ∙ fault.1) left.2.2)

pub returns-in_err-admitted-in-Some-clause-fault : goal.returns-in_err-admitted-in-Some-clause-fault
returns-in_err-admitted-in-Some-clause-fault c =
    let one = rw c.in-Some.is at c.in_ok-find.ensures.found in
    let left = err_from_is_err_and c.from_residual-in_err-admitted-in-Some.result
    c.from_residual-in_err-admitted-in-Some.ensures.1 in
    rw (left.1, left.2) (c.in_err-admitted-in-Some.ensures.fault c.args.name.now
    (map extension_view c.args.extensions.now) one)
