use Rattle.std.proofs.Common.{take}
use Rattle.rbac_policy.specs.Named.{named_views}
use Rattle.rbac_policy.proofs.Trying.{TriedWithoutMatch}
use Rattle.rbac_policy.proofs.trials.try_policies.Given as goal

abbrev pub invariant-loop-number : goal.invariant-loop-number
invariant-loop-number l = TriedWithoutMatch l.request 0 (named_views l.list (take l.number l.policies)) l.trials.items
