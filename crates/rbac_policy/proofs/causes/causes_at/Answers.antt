use Rattle.std.proofs.Common.{refl}
use Rattle.rbac_policy.proofs.PolicyNames.{placed}
use Rattle.rbac_policy.proofs.causes.causes_at.Goals as goal

pub returns-in-None : goal.returns-in-None
returns-in-None c =
    let at = placed c.args.policies.now c.args.place c.get.result c.get.ensures.lookup in
    rw (at, c.in-None.is) refl
