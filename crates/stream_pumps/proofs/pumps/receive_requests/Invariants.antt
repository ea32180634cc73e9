-- What was read so far was given to the control plane, and what it sent was written.
use Rattle.std.proofs.Common.{List, map}
use Rattle.std.specs.List.{AllByRecursion}
use Rattle.std.specs.Io.KnownBytes.{Consumes}
use Rattle.ads.specs.Ends.{control_view}
use Rattle.stream_pumps.specs.ControlPump.{FeedCall, FeedsDo, GoesOn, bytes_of, replies_of}
use Rattle.stream_pumps.specs.Pumps.{joined}
use Rattle.stream_pumps.proofs.PumpLemmas.{WrittenWhole}
use Rattle.stream_pumps.proofs.pumps.receive_requests.Given as goal

abbrev pub invariant-loop : goal.invariant-loop
invariant-loop g l = (calls : List FeedCall)
    × FeedsDo (control_view l.fn.control) calls (control_view l.control)
    × AllByRecursion GoesOn calls
    × Consumes (g.R.Read.remaining l.fn.reader) (g.R.Read.remaining l.reader) (joined (map bytes_of calls))
    × WrittenWhole (g.W.Write.contents l.fn.writer) (g.W.Write.contents l.writer) (map replies_of calls)
