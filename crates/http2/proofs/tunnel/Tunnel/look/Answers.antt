use Rattle.std.proofs.Common.{ℕ, List, Some, Ok, length, refl, ap, arith, length-append}
use Rattle.http2.specs.Lines.{unread}
use Rattle.http2.specs.Controls.{control_view}
use Rattle.http2.specs.Call.{by_fault}
use Rattle.http2.specs.declared.end.End.{End}
use Rattle.http2.specs.declared.end.End.TheVariants.{Broken}
use Rattle.http2.proofs.Calls.{is_ended}
use Rattle.http2.proofs.tunnel.Tunnel.look.Goals as goal

pub returns-in-Ok-Some-clause-shorter : goal.returns-in-Ok-Some-clause-shorter
returns-in-Ok-Some-clause-shorter c = λ _.
    let frame = c.in-Ok-Some.frame in
    let whole = c.in-Ok-Some.ensures.frame frame (ap (λ o. Ok o) c.in-Ok-Some.field-0-is) in
    let lengths = ap (λ (t : List ℕ). length t) whole in
    let sum = length-append frame.bytes.items c.next.new.self.rest in
    let same = ap (λ (t : List ℕ). length t) c.act-self.ensures.rest in
    omega (arith, frame.whole, lengths, sum, same)

pub returns-in-Ok-Some-clause-keeps : goal.returns-in-Ok-Some-clause-keeps
returns-in-Ok-Some-clause-keeps c = λ first came sent took gave law.
    let got = c.in-Ok-Some.ensures.law c.in-Ok-Some.frame (ap (λ o. Ok o) c.in-Ok-Some.field-0-is) law.trail came sent took gave law.law in
    let later = c.act-self.ensures.answers first law.trail came sent took gave got law.is_after.begins
    (law.is_after.going c.requires.open) (law.is_after.answered c.requires.open) in
    record { trail = later.0; law = later.1; is_after = later.2 }

pub returns-in-Err-clause-keeps : goal.returns-in-Err-clause-keeps
returns-in-Err-clause-keeps c = λ first came sent took gave law.
    let old = c.args.self.now in
    let fault = c.in-Err.ensures.fault in
    let end : End = Broken c.in-Err.fault in
    record {
      trail = law.trail;
      law = fault.2 law.trail came sent took gave law.law;
      is_after = is_ended first law.trail (control_view old.control) (Some end) (unread c.next.new.self) end refl law.is_after.begins
          (by_fault (control_view old.control) (law.is_after.going c.requires.open) refl c.in-Err.fault refl (rw fault.1 fault.0));
    }
