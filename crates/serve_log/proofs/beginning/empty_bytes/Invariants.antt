-- So many frames were added.
use Rattle.std.proofs.Common.{◌≡◌, ◌-◌, ◌≤◌}
use Rattle.serve_log.specs.Beginnings.{empty_frames}
use Rattle.serve_log.proofs.beginning.empty_bytes.Given as goal

abbrev pub invariant-frames : goal.invariant-frames
invariant-frames l = (l.done ≤ l.count) × (l.bytes.items ≡ empty_frames l.done)

abbrev pub decreases-frames : goal.decreases-frames
decreases-frames l = l.count - l.done
