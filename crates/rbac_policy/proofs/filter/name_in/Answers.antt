use Rattle.std.proofs.Common.{ap, Some, refl}
use Rattle.rbac_policy.proofs.PolicyNames.{placed}
use Rattle.rbac_policy.proofs.filter.name_in.Goals as goal

pub returns-in-Some : goal.returns-in-Some
returns-in-Some c =
    let at = placed c.args.policies.now c.args.place c.get.result c.get.ensures.lookup in
    rw (at, c.in-Some.is) (ap Some c.as_str.ensures.value)

pub returns-in-None : goal.returns-in-None
returns-in-None c =
    let at = placed c.args.policies.now c.args.place c.get.result c.get.ensures.lookup in
    rw (at, c.in-None.is) refl
