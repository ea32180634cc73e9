use Rattle.std.proofs.Common.{List, ℕ, Option, None, Ok, refl, ap, length, arith, length-append, subst}
use Rattle.http2.specs.Lines.{unread}
use Rattle.http2.specs.Servings.{serving_view}
use Rattle.http2.specs.Served.{answered, by_fault, IsServed}
use Rattle.http2.specs.declared.over.Over.{Over}
use Rattle.http2.specs.declared.over.Over.TheVariants.{Broken}
use Rattle.http2.proofs.Serves.{going_served, over_served}
use Rattle.http2.proofs.server.Server.look.Goals as goal

pub returns-in-Ok-Some-clause-shorter : goal.returns-in-Ok-Some-clause-shorter
returns-in-Ok-Some-clause-shorter c = λ _.
    let frame = c.in-Ok-Some.frame in
    let whole = c.in-Ok-Some.ensures.frame frame (ap (λ o. Ok o) c.in-Ok-Some.field-0-is) in
    let lengths = ap (λ (t : List ℕ). length t) whole in
    let sum = length-append frame.bytes.items c.next.new.self.rest in
    let same = ap (λ (t : List ℕ). length t) c.serve-self.ensures.rest in
    omega (arith, frame.whole, lengths, sum, same)

pub returns-in-Ok-Some-clause-stays : goal.returns-in-Ok-Some-clause-stays
returns-in-Ok-Some-clause-stays c = λ came sent took gave law.
    let old = c.args.self.now in
    let going = subst (λ (o : Option Over). IsServed law.trail (serving_view old.serving) o (unread old.pipe)) c.requires.open law.is_served in
    let got = c.in-Ok-Some.ensures.law c.in-Ok-Some.frame (ap (λ o. Ok o) c.in-Ok-Some.field-0-is) law.trail law.later _ took gave law.law in
    let later = c.serve-self.ensures.acts law.trail law.later _ took gave got
    (going_served law.trail (serving_view old.serving) None (unread old.pipe) (unread c.next.new.self) refl c.next.ensures.number going) in
    record { later = law.later; trail = later.0; arrived = law.arrived; behind = law.behind; law = later.1; is_served = later.2 }

pub returns-in-Err-clause-stays : goal.returns-in-Err-clause-stays
returns-in-Err-clause-stays c = λ came sent took gave law.
    let old = c.args.self.now in
    let fault = c.in-Err.ensures.fault in
    let over : Over = Broken c.in-Err.fault in
    let is = law.is_served in
    record {
      later = law.later;
      trail = law.trail;
      arrived = law.arrived;
      behind = law.behind;
      law = fault.2 law.trail law.later _ took gave law.law;
      is_served = over_served law.trail (serving_view old.serving) (unread old.pipe) (unread c.next.new.self) over
          c.next.ensures.number is.later is.whole is.said
          (by_fault (serving_view old.serving) (answered law.trail) (is.going c.requires.open) refl c.in-Err.fault refl (rw fault.1 fault.0));
    }
