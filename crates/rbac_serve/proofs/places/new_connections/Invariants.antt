use Rattle.std.proofs.Common.{◌≡◌, ◌≤◌, ◌-◌, length}
use Rattle.rbac_serve.specs.private.ConnectionStates.{free_connections}
use Rattle.rbac_serve.proofs.places.new_connections.Given as goal

abbrev pub invariant-adding : goal.invariant-adding
invariant-adding l = (length l.connections.items ≤ l.places) × (l.connections.items ≡ free_connections (length l.connections.items))

abbrev pub decreases-adding : goal.decreases-adding
decreases-adding l = l.places - length l.connections.items
