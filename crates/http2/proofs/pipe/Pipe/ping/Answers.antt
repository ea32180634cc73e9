use Rattle.std.proofs.Common.{Some, List, ℕ, [], ◌∷◌, ap, arith}
use Rattle.http2.specs.Trail.{Line, put, move_ping}
use Rattle.http2.specs.Lines.{line}
use Rattle.http2.proofs.Keeping.{law_silent}
use Rattle.http2.proofs.Putting.{ping_puts}
use Rattle.http2.proofs.pipe.Pipe.ping.Goals as goal

pub returns-clause-law : goal.returns-clause-law
returns-clause-law c =
    let old : Line = line c.args.self.now in
    let frame : List ℕ = c.in_ok-frame.frame.bytes.items in
    let is = c.in_ok-frame.ensures in
    let out = rw c.deref.ensures.value at c.in_ok-push.ensures.found in (
      put frame ∷ [],
      (move_ping is.kind is.flags is.stream, tt),
      λ trail came sent took gave law.
          law_silent trail came sent took gave old _ frame
          (ping_puts frame _ c.args.mark old _ (record { whole = c.in_ok-frame.frame.whole; small = c.in_ok-frame.frame.small })
          is.kind is.flags is.payload (omega (arith, c.octets.ensures.number, c.octets-2.ensures.number))
          (ap (λ (t : List ℕ). record old { out = t; waits = Some c.args.mark }) out)) law,
    )
