-- The connections are as they were, beside empty places.
use Rattle.std.proofs.Common.{◌≡◌, ◌+◌, ◌-◌, ℕ, length}
use Rattle.serve_log.specs.Recording.{connection_at}
use Rattle.serve_log.proofs.recorder.Recorder.make_room.Given as goal

abbrev pub invariant-places : goal.invariant-places
invariant-places g l =
    ((k : ℕ) → connection_at k l.self.connections.items ≡ connection_at k l.fn.self.connections.items)
    × (l.self.open_files ≡ l.fn.self.open_files)

abbrev pub decreases-places : goal.decreases-places
decreases-places g l = l.place + 1 - length l.self.connections.items
