use Rattle.std.proofs.Common.{◌≡◌, ◌≤◌, ◌-◌, ℕ, None, length}
use Rattle.serve_core.specs.Fronts.{connection_at}
use Rattle.serve_core.proofs.fronts.free_places.Given as goal

abbrev pub invariant-adding : goal.invariant-adding
invariant-adding l =
    (length l.connections.items ≤ l.places) × ((k : ℕ) → connection_at k l.connections.items ≡ None)

abbrev pub decreases-adding : goal.decreases-adding
decreases-adding l = l.places - length l.connections.items
