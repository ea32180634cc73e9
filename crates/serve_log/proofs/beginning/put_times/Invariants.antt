-- The line was put so many times.
use Rattle.std.proofs.Common.{◌≡◌, ◌-◌, ◌*◌, ◌≤◌, ℕ, true}
use Rattle.proxy_core.specs.Events.{ads_bytes}
use Rattle.serve_log.specs.Beginnings.{TakesBytes, empty_frames}
use Rattle.serve_log.specs.Lines.{event_text}
use Rattle.serve_log.proofs.beginning.put_times.Given as goal

abbrev pub invariant-lines : goal.invariant-lines
invariant-lines g l =
    (l.done ≤ l.times)
    × ((size : ℕ) → l.line ≡ event_text (ads_bytes (empty_frames size)) → l.fn.file.is_whole ≡ true
    → TakesBytes g.W.Write.contents (empty_frames (l.done * size)) l.fn.file l.file)

abbrev pub decreases-lines : goal.decreases-lines
decreases-lines g l = l.times - l.done
