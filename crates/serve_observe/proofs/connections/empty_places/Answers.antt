-- One place more is empty.
use Rattle.std.proofs.Common.{refl}
use Rattle.serve_observe.proofs.Numbers.{empty_more}
use Rattle.serve_observe.proofs.connections.empty_places.Goals as goal

pub loop-places-init : goal.loop-places-init
loop-places-init c = λ k. rw c.in_ok-places.ensures.items refl

pub loop-places-preserved : goal.loop-places-preserved
loop-places-preserved c = λ k. rw c.in_ok-push.ensures.items (empty_more _ c.loop-places.invariant k)
