use Rattle.std.proofs.Common.{Ok, List, ℕ, [], ◌++◌, ap, refl, sym, length, arith, length-append, ◌∙◌}
use Rattle.http2.specs.Unary.{unary_view}
use Rattle.http2.proofs.Unaries.{law_acted, stopped_at}
use Rattle.http2.proofs.unary.UnaryServer.look.Goals as goal

pub returns-in-Ok-Some-clause-shorter : goal.returns-in-Ok-Some-clause-shorter
returns-in-Ok-Some-clause-shorter c = λ _.
    let frame = c.in-Ok-Some.frame in
    let whole = c.in-Ok-Some.ensures.frame frame (ap (λ o. Ok o) c.in-Ok-Some.field-0-is) in
    let lengths = ap (λ (t : List ℕ). length t) whole in
    let sum = length-append frame.bytes.items c.next.new.self.rest in
    let same = ap (λ (t : List ℕ). length t) c.serve-self.ensures.rest in
    omega (arith, frame.whole, lengths, sum, same)

pub returns-in-Ok-Some-clause-continues : goal.returns-in-Ok-Some-clause-continues
returns-in-Ok-Some-clause-continues c = λ most trail came sent gave law.
    let old = c.args.self.now in
    let frame = c.in-Ok-Some.frame in
    let whole = c.in-Ok-Some.ensures.frame frame (ap (λ o. Ok o) c.in-Ok-Some.field-0-is) in
    let rest = whole ∙ ap (λ (t : List ℕ). frame.bytes.items ++ t) (sym c.serve-self.ensures.rest) in
    law_acted most trail came sent gave (unary_view old) _ frame.bytes.items c.serve-self.result (record { whole = frame.whole; small = frame.small })
    c.requires.open refl refl rest (rw (← c.next.ensures.out) c.serve-self.ensures.acts) law

pub returns-in-Err-clause-continues : goal.returns-in-Err-clause-continues
returns-in-Err-clause-continues c = λ most trail came sent gave law.
    let old = c.args.self.now in
    let fault = c.in-Err.ensures.fault in (
      [],
      tt,
      stopped_at most trail came sent gave (unary_view old) _ c.in-Err.fault c.requires.open refl refl
          (ap (λ w. w.rest) fault.1) (ap (λ w. w.out) fault.1) fault.0 law,
    )
