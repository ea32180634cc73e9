use Rattle.std.proofs.Common.{inl, inr}
use Rattle.std.proofs.lemmas.Result.{IfOk-weaker}
use Rattle.rbac_judge.proofs.batch.answer_to_value.Goals as goal

pub returns-in-Ok : goal.returns-in-Ok
returns-in-Ok c = IfOk-weaker c.text.result _ _ (λ text same. inl (c.in-Ok.report, c.in-Ok.ensures.found, same)) c.text.ensures

pub returns-in_ok-cause-in-Err-BadLine : goal.returns-in_ok-cause-in-Err-BadLine
returns-in_ok-cause-in-Err-BadLine c = IfOk-weaker c.bad_text.result _ _
    (λ text same. inr (c.in-Err-BadLine.ensures.fault c.in-Err-BadLine.field-0-is, (_, same))) c.bad_text.ensures
