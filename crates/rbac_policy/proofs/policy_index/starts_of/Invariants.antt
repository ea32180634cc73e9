use Rattle.std.proofs.Common.{◌≡◌, ◌≤◌, ℕ, length, get_or, take}
use Rattle.rbac_policy.specs.private.PolicyIndex.{start_number}
use Rattle.rbac_policy.proofs.policy_index.starts_of.Given as goal

abbrev pub invariant-loop-count : goal.invariant-loop-count
invariant-loop-count l = record {
  room : length l.starts ≡ 65;
  number : l.number ≡ start_number (take l.count l.path);
  starts : (k : ℕ) → k ≤ l.count → get_or l.starts k 0 ≡ start_number (take k l.path);
}
