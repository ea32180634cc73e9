use Rattle.std.proofs.Common.{◌≡◌, ◌≤◌, ◌+◌, ◌++◌, List, length}
use Rattle.http2.specs.declared.stream.Stream.{Stream}
use Rattle.http2.proofs.Finding.{AreOther}
use Rattle.http2.proofs.streams.place_of.Given as goal

abbrev pub invariant-streams : goal.invariant-streams
invariant-streams l = ((front : List Stream) × (l.streams ≡ front ++ l.rest) × (l.at ≡ length front) × AreOther l.number front)
    × (l.at + length l.rest ≤ length l.streams)

abbrev pub decreases-streams : goal.decreases-streams
decreases-streams l = length l.rest
