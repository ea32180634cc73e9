use Rattle.std.proofs.Common.{◌≡◌, take}
use Rattle.rbac_match.proofs.needs.same_count.Given as goal

abbrev pub invariant-loop-count : goal.invariant-loop-count
invariant-loop-count l = take l.count l.one ≡ take l.count l.other
