-- The filters so far let the request through. If there is one, there is another after it.
use Rattle.std.proofs.Common.{◌≡◌, ◌<◌, ◌⊎◌, Some, length}
use Rattle.std.specs.Arc.{arc_value}
use Rattle.vupresal_c.proofs.Trying.{Passed}
use Rattle.vupresal_c.proofs.by_set.try_all.Given as goal

abbrev pub invariant-loop-number : goal.invariant-loop-number
invariant-loop-number l = Passed arc_value (Some l.request) l.number l.filters × ((l.number ≡ 0) ⊎ (l.number < length l.filters))
