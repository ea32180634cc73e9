-- The record and the next number are as they were.
use Rattle.std.proofs.Common.{◌≡◌}
use Rattle.serve_observe.proofs.observers.Observers.answered.Given as goal

abbrev pub invariant-loop-answered_ask : goal.invariant-loop-answered_ask
invariant-loop-answered_ask g l =
    (l.self.logs.recorder ≡ l.fn.self.logs.recorder) × (l.self.connections.next ≡ l.fn.self.connections.next)
