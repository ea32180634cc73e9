use Rattle.std.proofs.Common.{◌↔◌, arith, sym, true≢false}
use Rattle.serve_core.proofs.OtherProtocolLemmas.{stream_zero_long}
use Rattle.serve_core.proofs.other_protocol.is_http2.Goals as goal

pub returns-then-first-lt-ENOUGH : goal.returns-then-first-lt-ENOUGH
returns-then-first-lt-ENOUGH c = (
  λ no. absurd (true≢false (sym no)),
  λ is. absurd (omega (arith, stream_zero_long c.args.first.now is.1, c.if-first-lt-ENOUGH.true)),
)
