use Rattle.std.proofs.Common.{◌≡◌, arith, refl}
use Rattle.stream_pumps.proofs.RoundLemmas.{rounds_next, serves_of}
use Rattle.stream_pumps.proofs.rounds.serve_rounds.Goals as goal

pub loop-init : goal.loop-init
loop-init g c = (refl, refl)

pub loop-preserved : goal.loop-preserved
loop-preserved g c = rounds_next _ _ _ c.loop.counter _ _ _ _ _ _ c.loop.invariant (record {
  between = _;
  receives = c.receive_updates-link.ensures;
  serves = serves_of (g.S.Reader.Read.remaining) (g.S.Writer.Write.contents) c.accept.result
      (g.S.Streams.accepts c.args.streams.now) _ _ _ c.accept.ensures c.serve_one.ensures.served c.serve_one.ensures.none;
})

pub returns : goal.returns
returns g c =
    let ended : c.loop.counter ≡ c.args.rounds = omega (arith, c.loop.auto.counter-end, c.loop-test.false) in
    (_, rw ended at c.loop.invariant)
