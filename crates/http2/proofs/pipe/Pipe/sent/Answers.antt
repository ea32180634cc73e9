use Rattle.std.proofs.Common.{List, ℕ, ap}
use Rattle.http2.specs.Trail.{Line}
use Rattle.http2.specs.Lines.{line}
use Rattle.http2.proofs.Keeping.{law_sent}
use Rattle.http2.proofs.pipe.Pipe.sent.Goals as goal

pub returns-clause-law : goal.returns-clause-law
returns-clause-law c = λ trail came sent took gave law.
    let old : Line = line c.args.self.now in
    law_sent trail came sent took gave old _ c.args.count
    (ap (λ (t : List ℕ). record old { out = t }) c.skip.ensures) law
