use Rattle.std.proofs.Common.{refl}
use Rattle.stream_pumps.specs.Rounds.{ReceivesUpdates}
use Rattle.stream_pumps.proofs.RoundLemmas.{receives_of}
use Rattle.stream_pumps.proofs.rounds.receive_updates.Goals as goal

pub returns-in-Some : goal.returns-in-Some
returns-in-Some g c = rw c.in-Some.is (ReceivesUpdates.up _ refl c.take_one.ensures)

pub returns-in-None : goal.returns-in-None
returns-in-None g c = rw c.in-None.is (receives_of (g.S.Reader.Read.remaining) (g.S.Writer.Write.contents)
    c.connect.result (g.S.Streams.connects c.args.streams.now) _ _ _ c.connect.ensures c.come_up.ensures.up c.come_up.ensures.lost)
