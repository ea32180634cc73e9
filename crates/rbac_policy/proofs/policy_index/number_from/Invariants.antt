use Rattle.std.proofs.Common.{◌≡◌, take}
use Rattle.rbac_policy.specs.private.PolicyIndex.{number_from}
use Rattle.rbac_policy.proofs.policy_index.number_from.Given as goal

abbrev pub invariant-loop-byte : goal.invariant-loop-byte
invariant-loop-byte l = l.number ≡ number_from l.before (take l.byte-index l.bytes)
