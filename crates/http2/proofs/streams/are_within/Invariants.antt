use Rattle.std.proofs.Common.{◌≡◌, map, length}
use Rattle.http2.specs.Streams.{are_within}
use Rattle.http2.specs.StreamViews.{stream_view}
use Rattle.http2.proofs.streams.are_within.Given as goal

abbrev pub invariant-streams : goal.invariant-streams
invariant-streams l = are_within l.window (map stream_view l.rest) ≡ are_within l.window (map stream_view l.streams)

abbrev pub decreases-streams : goal.decreases-streams
decreases-streams l = length l.rest
