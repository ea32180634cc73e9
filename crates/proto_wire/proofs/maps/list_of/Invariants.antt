use Rattle.std.proofs.Common.{◌≡◌, ◌++◌, length}
use Rattle.proto_wire.proofs.maps.list_of.Given as goal

abbrev pub invariant-loop-entry : goal.invariant-loop-entry
invariant-loop-entry g l = l.fn.map.entries ≡ l.list.items ++ l.map.entries

abbrev pub decreases-loop-entry : goal.decreases-loop-entry
decreases-loop-entry g l = length l.map.entries
