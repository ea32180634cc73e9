use Rattle.callers.proofs.TakenAsks.{TakenSoFar}
use Rattle.http_front.specs.Heads.{size_of_kept}
use Rattle.callers.proofs.heads.take_asks.Given as goal

abbrev pub invariant-loop-asks : goal.invariant-loop-asks
invariant-loop-asks l = TakenSoFar l.fn.front l.fn.bytes l.front l.asks.items

abbrev pub decreases-loop-asks : goal.decreases-loop-asks
decreases-loop-asks l = size_of_kept l.front.kept
