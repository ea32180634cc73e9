use Rattle.std.proofs.Common.{List, ℕ, refl, ap, arith, ◌≡◌, None, true, rules}
use Rattle.http2.specs.Exchanged.{can_end}
use Rattle.http2.specs.Streams.{find}
use Rattle.http2.specs.Unary.{UnaryValue, unary_view}
use Rattle.http2.proofs.Calls.{none_of}
use Rattle.http2.proofs.Unaries.{law_wrote, law_spent}
use Rattle.http2.proofs.Writing.{kind_is, quiet_of, heads_of, trailers_puts}
use Rattle.http2.proofs.unary.UnaryServer.finish.Goals as goal

pub returns-in-Ok-clause-written : goal.returns-in-Ok-clause-written
returns-in-Ok-clause-written c = λ is.
    let old : UnaryValue = unary_view c.args.self.now in
    let none : old.over ≡ None = none_of old.over c.if-is_some.ensures in
    let can : can_end (find c.args.stream old.exchange.streams) ≡ true = search rules in
    let wrote = c.in-Ok.ensures.wrote in
    let frame : List ℕ = wrote.0 in
    let block : List ℕ = c.in_ok-block.block.items in
    let are = rw c.deref.ensures.value at wrote.2 in
    let kind = kind_is frame block 1 5 c.args.stream are in (
      frame,
      heads_of c.args.stream 5 _ frame block are c.in_ok-block.ensures.means,
      λ most trail came sent gave law.
          law_wrote most trail came sent gave old _ frame wrote.1 none refl refl c.write_end.ensures.rest wrote.3 refl
          (trailers_puts old.exchange _ frame block c.args.stream are can wrote.4)
          (quiet_of frame 1 kind (λ e. absurd (omega (arith, e))) (λ e. absurd (omega (arith, e))) (λ e. absurd (omega (arith, e)))) law,
    )

pub returns-clause-fault : goal.returns-clause-fault
returns-clause-fault c = λ most trail came sent gave law.
    let old : UnaryValue = unary_view c.args.self.now in
    let none : old.over ≡ None = none_of old.over c.if-is_some.ensures in
    let same = c.in-Err.ensures.fault in
    law_spent most trail came sent gave old _ none refl refl (ap (λ w. w.rest) same) (ap (λ w. w.out) same) law
