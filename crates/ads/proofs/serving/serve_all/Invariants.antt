use Rattle.std.proofs.Common.{◌≡◌, length}
use Rattle.ads.specs.Views.{served_view, snapshots_view}
use Rattle.ads.proofs.ServingLemmas.{GoesOn}
use Rattle.ads.proofs.serving.serve_all.Given as goal

abbrev pub invariant-loop-message : goal.invariant-loop-message
invariant-loop-message l =
    (l.frames.max ≡ l.initial.frames.max) × (l.frames.tail ≡ l.initial.frames.tail)
    × GoesOn (snapshots_view l.snapshots) (served_view l.initial.serving.served) l.initial.frames.messages
    l.initial.serving.replies.items l.initial.serving.exchanges.items (served_view l.serving.served) l.frames.messages
    l.serving.replies.items l.serving.exchanges.items

abbrev pub decreases-loop-message : goal.decreases-loop-message
decreases-loop-message l = length l.frames.messages
