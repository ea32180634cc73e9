use Rattle.std.proofs.Common.{◌≡◌, length}
use Rattle.http_front.specs.private.Stops.{skip_ends}
use Rattle.http_front.proofs.part.skip_ends.Given as goal

abbrev pub invariant-loop-bytes : goal.invariant-loop-bytes
invariant-loop-bytes l = skip_ends l.bytes ≡ skip_ends l.fn.bytes

abbrev pub decreases-loop-bytes : goal.decreases-loop-bytes
decreases-loop-bytes l = length l.bytes
