-- So far bytes without a line feed were taken and counted, and kept if they are not too many.
use Rattle.std.proofs.Common.{◌≡◌, ◌≢◌, ◌≤◌, ℕ, List, All, length}
use Rattle.std.specs.Io.KnownBytes.{Consumes}
use Rattle.std.specs.Io.Iter.{u64_saturate}
use Rattle.rbac_judge.proofs.head_lines.read_head_line.Given as goal

abbrev pub invariant-loop : goal.invariant-loop
invariant-loop g l = (done : List ℕ) × (l.count ≡ u64_saturate (length done)) × All (λ x. x ≢ 10) done
    × Consumes (g.R.Read.remaining l.fn.input) (g.R.Read.remaining l.input) done
    × (length done ≤ 1048576 → l.line.items ≡ done)
