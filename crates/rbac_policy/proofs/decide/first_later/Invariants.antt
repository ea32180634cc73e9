use Rattle.std.proofs.Common.{false, map, take}
use Rattle.std.specs.List.{AllByRecursion}
use Rattle.rbac_policy.specs.Named.{policy_view}
use Rattle.rbac_policy.specs.private.Runs.{MatchesByRun}
use Rattle.rbac_policy.proofs.decide.first_later.Given as goal

abbrev pub invariant-loop-number : goal.invariant-loop-number
invariant-loop-number l = AllByRecursion (λ p. MatchesByRun l.request p false) (map (policy_view l.list) (take l.number l.policies))
