use Rattle.std.proofs.Common.{◌≢◌, arith}
use Rattle.http2.specs.Lines.{line}
use Rattle.http2.proofs.Opened.{law_opened}
use Rattle.http2.proofs.pipe.Pipe.open.Goals as goal

pub returns-clause-law : goal.returns-clause-law
returns-clause-law c = λ trail came sent took gave quiet law.
    let old = c.args.self.now in
    let before : old.number ≢ 0 = λ e. absurd (omega (arith, e, c.requires.unopened)) in
    let after : c.args.number ≢ 0 = λ e. absurd (omega (arith, e, c.requires.stream.0)) in
    law_opened trail came sent took gave (line old) c.args.number before after quiet law
