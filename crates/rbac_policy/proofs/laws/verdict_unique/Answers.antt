use Rattle.rbac_policy.proofs.OneVerdict.{verdict_unique}
use Rattle.rbac_policy.proofs.laws.verdict_unique.Goals as goal

pub returns-clause-written : goal.returns-clause-written
returns-clause-written c is_met = verdict_unique is_met

pub returns-clause-enforced : goal.returns-clause-enforced
returns-clause-enforced c is_met = verdict_unique is_met
