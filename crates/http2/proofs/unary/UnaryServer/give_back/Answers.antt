use Rattle.std.proofs.Common.{List, ℕ, [], ◌∷◌, ◌+◌, ◌-◌, refl, ap, arith, ◌≡◌}
use Rattle.http2.specs.Trail.{put}
use Rattle.http2.specs.Unary.{UnaryValue, window, unary_view}
use Rattle.http2.proofs.Unaries.{law_wrote, law_spent}
use Rattle.http2.proofs.Writing.{kind_is, stream_is, parts_as, quiet_of, window_puts}
use Rattle.http2.proofs.unary.UnaryServer.give_back.Goals as goal

pub returns-in-Ok-clause-continues : goal.returns-in-Ok-clause-continues
returns-in-Ok-clause-continues c = λ most trail came sent gave law.
    let old : UnaryValue = unary_view c.args.self.now in
    let few = c.args.self.now.exchange.few in
    let count : ℕ = 1048581 - old.exchange.credit in
    let wrote = c.in-Ok.ensures.wrote in
    let frame : List ℕ = wrote.0 in
    let payload : List ℕ = c.octets.result in
    let are = parts_as frame payload _ _ _ 8 0 0 c.head.ensures.kind c.head.ensures.flags c.head.ensures.stream wrote.2 in
    let sum : 1048581 ≡ old.exchange.credit + count = omega (arith, few) in
    let kind = kind_is frame payload 8 0 0 are in (
      put frame ∷ [],
      (window kind (stream_is frame payload 8 0 0 are), tt),
      law_wrote most trail came sent gave old _ frame wrote.1 c.requires refl refl c.put.ensures.rest wrote.3 refl
          (window_puts old.exchange _ frame payload count wrote.1 are c.octets.ensures.four c.octets.ensures.number (omega (arith, few)) (omega (arith, few)) (omega (arith, few))
          (ap (λ (n : ℕ). record (old.exchange) { credit = n }) sum))
          (quiet_of frame 8 kind (λ e. absurd (omega (arith, e))) (λ e. absurd (omega (arith, e))) (λ e. absurd (omega (arith, e)))) law,
    )

pub returns-in-Err-clause-continues : goal.returns-in-Err-clause-continues
returns-in-Err-clause-continues c = λ most trail came sent gave law.
    let old : UnaryValue = unary_view c.args.self.now in
    let same = c.in-Err.ensures.fault in
    ([], tt, law_spent most trail came sent gave old _ c.requires refl refl (ap (λ w. w.rest) same) (ap (λ w. w.out) same) law)
