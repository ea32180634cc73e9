use Rattle.std.proofs.Common.{◌∙◌, ap, codes}
use Rattle.std.proofs.lemmas.Result.{IfOk-weaker}
use Rattle.rbac_judge.proofs.BatchLemmas.{answered_long}
use Rattle.rbac_judge.proofs.batch.answer.Goals as goal

pub returns-in-Whole : goal.returns-in-Whole
returns-in-Whole c = IfOk-weaker c.answer_to_bytes.result _ _ (λ text by bytes of.
    let is = rw c.in-Whole.is at of in
    let same = rw c.deref.ensures.value at by in
    rw is.0 (same (rw is.0 at is.1))) c.answer_to_bytes.ensures

pub returns-in_ok-text-in-TooLong : goal.returns-in_ok-text-in-TooLong
returns-in_ok-text-in-TooLong c = λ bytes of.
    let long = rw c.in-TooLong.is at of in
    answered_long _ _ _ c.args.number bytes _ (codes "the line has more than 1048576 bytes") long
    (ap (λ v. v.items) c.into_bytes.ensures.value ∙ c.in_ok-text-in-TooLong.ensures)
