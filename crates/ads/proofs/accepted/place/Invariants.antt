use Rattle.std.proofs.Common.{◌≡◌, ◌≤◌, length}
use Rattle.ads.specs.Answer.{replaced}
use Rattle.ads.specs.Views.{policies_view}
use Rattle.ads.proofs.accepted.place.Given as goal

abbrev pub invariant-loop-newest : goal.invariant-loop-newest
invariant-loop-newest l =
    (replaced (policies_view l.policies.items) (policies_view l.given.items)
    ≡ replaced (policies_view l.fn.policies.items) (policies_view l.fn.given.items))
    × (length l.given.items ≤ length l.policies.items)
    × (length l.policies.items ≡ length l.fn.policies.items)

abbrev pub decreases-loop-newest : goal.decreases-loop-newest
decreases-loop-newest l = length l.given.items
