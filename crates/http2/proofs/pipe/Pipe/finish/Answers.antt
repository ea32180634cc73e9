use Rattle.std.proofs.Common.{◌≡◌, ◌+◌, true, false, List, ℕ, [], ◌∷◌, refl, ap₂, arith, rules}
use Rattle.http2.specs.Frame.{flow_of}
use Rattle.http2.specs.Trail.{Line, put, move_data}
use Rattle.http2.specs.Lines.{line}
use Rattle.http2.proofs.Frames.{plain_flow}
use Rattle.http2.proofs.Keeping.{law_silent}
use Rattle.http2.proofs.Putting.{data_puts}
use Rattle.http2.proofs.pipe.Pipe.finish.Goals as goal

pub returns-clause-law : goal.returns-clause-law
returns-clause-law c =
    let old : Line = line c.args.self.now in
    let frame : List ℕ = c.in_ok-frame.frame.bytes.items in
    let is = c.in_ok-frame.ensures in
    let flow : flow_of frame ≡ 0 = plain_flow frame [] is.kind is.payload in
    let used : old.used ≡ old.used + flow_of frame = omega (arith, flow) in
    let out = rw c.deref.ensures.value at c.in_ok-push.ensures.found in
    let going : old.finished ≡ false = search rules in (
      put frame ∷ [],
      (move_data is.kind is.stream, tt),
      λ trail came sent took gave law.
          law_silent trail came sent took gave old _ frame
          (data_puts frame [] 1 old _ (record { whole = c.in_ok-frame.frame.whole; small = c.in_ok-frame.frame.small })
          is.kind is.stream is.flags is.payload refl going (λ some. absurd (omega (arith, some, flow)))
          (ap₂ (λ (t : List ℕ) (k : ℕ). record old { out = t; used = k; finished = true }) out used)) law,
    )
