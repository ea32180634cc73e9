use Rattle.std.proofs.Common.{◌≡◌, map, length}
use Rattle.http2.specs.Streams.{find}
use Rattle.http2.specs.StreamViews.{stream_view}
use Rattle.http2.proofs.streams.stream_of.Given as goal

abbrev pub invariant-streams : goal.invariant-streams
invariant-streams l = find l.number (map stream_view l.rest) ≡ find l.number (map stream_view l.streams)

abbrev pub decreases-streams : goal.decreases-streams
decreases-streams l = length l.rest
