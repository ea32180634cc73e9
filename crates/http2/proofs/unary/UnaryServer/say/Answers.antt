use Rattle.std.proofs.Common.{List, ℕ, refl, ap, take, length, arith, ◌≡◌, ◌≤◌, ◌<◌, None, rules}
use Rattle.http2.specs.Exchanged.{room_on}
use Rattle.http2.specs.Streams.{find}
use Rattle.http2.specs.Unary.{UnaryValue, unary_view}
use Rattle.http2.proofs.Calls.{none_of}
use Rattle.http2.proofs.Unaries.{law_wrote, law_spent}
use Rattle.http2.proofs.Writing.{kind_is, quiet_of, content_puts}
use Rattle.http2.proofs.unary.UnaryServer.say.Goals as goal

pub returns-in-Ok-clause-written : goal.returns-in-Ok-clause-written
returns-in-Ok-clause-written c = λ some.
    let old : UnaryValue = unary_view c.args.self.now in
    let none : old.over ≡ None = none_of old.over c.if-is_some.ensures in
    let n : ℕ = c.min-count.result in
    let octets : List ℕ = take n c.args.bytes.now in
    let wrote = c.in-Ok.ensures.wrote in
    let frame : List ℕ = wrote.0 in
    let filled : 0 < length octets = search rules in
    let within : length octets ≤ room_on old.exchange (find c.args.stream old.exchange.streams) = search rules in
    let kind = kind_is frame octets 0 0 c.args.stream wrote.2 in (
      frame,
      wrote.2,
      λ most trail came sent gave law.
          law_wrote most trail came sent gave old _ frame wrote.1 none refl refl c.write_content.ensures.rest wrote.3 refl
          (content_puts old.exchange _ frame octets c.args.stream wrote.2 filled within wrote.4)
          (quiet_of frame 0 kind (λ e. absurd (omega (arith, e))) (λ e. absurd (omega (arith, e))) (λ e. absurd (omega (arith, e)))) law,
    )

pub returns-in-Err-clause-fault : goal.returns-in-Err-clause-fault
returns-in-Err-clause-fault c = λ most trail came sent gave law.
    let old : UnaryValue = unary_view c.args.self.now in
    let none : old.over ≡ None = none_of old.over c.if-is_some.ensures in
    let same = c.in-Err.ensures.fault in
    law_spent most trail came sent gave old _ none refl refl (ap (λ w. w.rest) same) (ap (λ w. w.out) same) law
