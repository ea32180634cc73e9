use Rattle.std.proofs.Common.{◌↔◌, length}
use Rattle.http_front.specs.private.Stops.{FoldsIn}
use Rattle.http_front.proofs.part.folds_in.Given as goal

abbrev pub invariant-loop-head : goal.invariant-loop-head
invariant-loop-head l = FoldsIn l.head ↔ FoldsIn l.fn.head

abbrev pub decreases-loop-head : goal.decreases-loop-head
decreases-loop-head l = length l.head
