use Rattle.std.proofs.Common.{◌≡◌, ◌≤◌, ◌+◌, ◌-◌, List, ℕ, ap, ap₂, refl, rules, arith, ◌∙◌, ◌++◌, length, take, sym}
use Rattle.std.proofs.lemmas.List.{take-append-drop}
use Rattle.http2.specs.Frame.{IsFrame, flow_of, flow_on}
use Rattle.http2.specs.Lines.{line}
use Rattle.http2.proofs.Keeping.{law_got}
use Rattle.http2.proofs.pipe.Pipe.account.Goals as goal

pub returns-clause-law : goal.returns-clause-law
returns-clause-law c =
    let frame : List ℕ = c.args.frame.now.bytes.items in
    let rest : List ℕ = c.args.self.now.rest in
    let is : IsFrame frame = record { whole = c.args.frame.now.whole; small = c.args.frame.now.small } in
    let n : ℕ = c.len.result in
    let long : n ≡ length frame = search rules in
    let first : frame ≡ take n rest = rw long c.requires.first in
    let whole : rest ≡ frame ++ c.skip.new.self =
    sym (take-append-drop n rest) ∙ ap₂ (λ (a b : List ℕ). a ++ b) (sym first) (sym c.skip.ensures) in
    let old = c.args.self.now in
    let count : ℕ = c.flow-count.result in
    let on : ℕ = c.flow_on-on_stream.result in
    let enough : count + old.others ≤ old.credit = search rules in
    let few : on ≤ count = omega (arith, c.flow_on-on_stream.ensures.few, c.flow-count.ensures) in
    let stream : (old.credit - on) + flow_on old.number frame ≡ old.credit =
    omega (arith, enough, few, c.flow_on-on_stream.ensures.found) in
    let connection : ((old.credit - on) - (old.others + (count - on))) + flow_of frame ≡ old.credit - old.others =
    omega (arith, enough, few, c.flow-count.ensures) in
    λ trail came sent took gave law.
    law_got trail came sent took gave (line c.args.self.now) _ frame is refl whole
    (c.in_ok-push.ensures.found ∙ ap (λ (t : List ℕ). c.args.self.now.data_in ++ t) c.data-data.ensures.found)
    refl c.after-window.ensures c.in-Some.ensures.raised c.in-Some-raise.ensures.raised refl stream connection refl c.ponged-self.ensures law
