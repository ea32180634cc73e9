use Rattle.std.proofs.Common.{◌≡◌, length}
use Rattle.http2.specs.Faults.{wrong_entries}
use Rattle.http2.proofs.check.check_entries.Given as goal

abbrev pub invariant-entries : goal.invariant-entries
invariant-entries l = wrong_entries l.pushes l.rest ≡ wrong_entries l.pushes l.payload

abbrev pub decreases-entries : goal.decreases-entries
decreases-entries l = length l.rest
