-- The places so far are empty.
use Rattle.std.proofs.Common.{ℕ, ◌-◌, vec_len}
use Rattle.serve_observe.specs.Numbers.{AreEmpty, numbers}
use Rattle.serve_observe.proofs.connections.empty_places.Given as goal

abbrev pub invariant-loop-places : goal.invariant-loop-places
invariant-loop-places l = AreEmpty (numbers l.places.items)

abbrev pub decreases-loop-places : goal.decreases-loop-places
decreases-loop-places l = l.count - vec_len l.places
