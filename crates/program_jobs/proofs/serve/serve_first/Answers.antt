use Rattle.std.proofs.Common.{Bool, subst, sym}
use Rattle.ads.specs.Ends.{control_view}
use Rattle.stream_pumps.specs.Rounds.{ServesOneStream}
use Rattle.stream_pumps.proofs.RoundLemmas.{stream_of}
use Rattle.program_jobs.specs.Jobs.{streams_of}
use Rattle.program_jobs.proofs.serve.serve_first.Goals as goal

pub returns : goal.returns
returns g c =
    let accepts = g.N.Listen.accepts c.args.listener.now in
    let old = control_view c.args.control.now in
    let new = control_view c.serve_accepted.new.control in
    subst (λ (grpc : Bool). ServesOneStream (streams_of grpc accepts) old new) (sym c.if-grpc.false)
    (stream_of (g.N.Stream.Read.remaining) (g.N.Stream.Write.contents) c.next_stream-accepted.result accepts accepts old new
    (λ link accepted. accepted) c.next_stream-accepted.ensures c.serve_accepted.ensures.served c.serve_accepted.ensures.none)
