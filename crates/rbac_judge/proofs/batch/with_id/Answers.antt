use Rattle.std.proofs.Common.{None, Some, ap}
use Rattle.std.proofs.lemmas.Result.{IfOk-weaker}
use Rattle.rbac_judge.proofs.batch.with_id.Goals as goal

pub returns-in-Some : goal.returns-in-Some
returns-in-Some c = IfOk-weaker c.with_value.result _ _ (λ line found.
    rw c.in-Some.is (Some found.0, found.1, rw c.as_bytes.ensures.value at found.2)) c.with_value.ensures

pub returns-in-None : goal.returns-in-None
returns-in-None c = rw c.in-None.is (None, tt, ap (λ v. v.items) c.into_bytes.ensures.value)
