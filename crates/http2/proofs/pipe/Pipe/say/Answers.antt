use Rattle.std.proofs.Common.{◌≡◌, ◌≤◌, ◌<◌, ◌+◌, false, List, [], ◌∷◌, ℕ, ap, ap₂, refl, sym, ◌∙◌, length, take, arith, rules}
use Rattle.http2.specs.Frame.{IsFrame, flow_of}
use Rattle.http2.specs.Trail.{Line, put, move_data}
use Rattle.http2.specs.Lines.{line}
use Rattle.http2.proofs.Frames.{plain_flow}
use Rattle.http2.proofs.Keeping.{law_put, law_same}
use Rattle.http2.proofs.Putting.{data_puts}
use Rattle.http2.proofs.pipe.Pipe.say.Goals as goal

pub returns-clause-law : goal.returns-clause-law
returns-clause-law c =
    let old : Line = line c.args.self.now in
    let frame : List ℕ = c.in_ok-frame.frame.bytes.items in
    let is = c.in_ok-frame.ensures in
    let n : ℕ = c.min-count.result in
    let part : List ℕ = take n c.args.bytes.now in
    let long : length part ≡ n = search rules in
    let whole : IsFrame frame = record { whole = c.in_ok-frame.frame.whole; small = c.in_ok-frame.frame.small } in
    let flow : flow_of frame ≡ n = plain_flow frame part is.kind is.payload ∙ long in
    let some : 0 < c.room.result = search rules in
    let less : n ≤ c.room.result = search rules in
    let stream : old.used + flow_of frame ≤ old.window + old.stream = omega (arith, flow, less, c.room.ensures.stream some) in
    let connection : old.used + flow_of frame ≤ 65535 + old.connection = omega (arith, flow, less, c.room.ensures.connection some) in
    let used : old.used + n ≡ old.used + flow_of frame = ap (λ (k : ℕ). old.used + k) (sym flow) in
    let out = rw c.deref.ensures.value at c.in_ok-push.ensures.found in
    let going : old.finished ≡ false = search rules in (
      put frame ∷ [],
      (move_data is.kind is.stream, tt),
      λ trail came sent took gave law.
          law_put trail came sent took gave old _ frame part
          (data_puts frame part 0 old _ whole is.kind is.stream is.flags is.payload refl going (λ _. (stream, connection))
          (ap₂ (λ (t : List ℕ) (k : ℕ). record old { out = t; used = k }) out used)) law,
    )

pub returns-then-self-clause-law : goal.returns-then-self-clause-law
returns-then-self-clause-law c = ([], tt, law_same (line c.args.self.now))

pub returns-then-count-eq0-clause-law : goal.returns-then-count-eq0-clause-law
returns-then-count-eq0-clause-law c = ([], tt, law_same (line c.args.self.now))
