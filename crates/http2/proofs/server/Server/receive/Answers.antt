use Rattle.std.proofs.Common.{◌≡◌, List, ℕ, ◌++◌, None, ap, take, arith, append_assoc, ◌∙◌}
use Rattle.http2.specs.Trail.{preface}
use Rattle.http2.specs.Lines.{unread}
use Rattle.http2.specs.Servings.{serving_view}
use Rattle.http2.proofs.Calls.{none_of, on_err}
use Rattle.http2.proofs.Serves.{going_served}
use Rattle.http2.proofs.server.Server.receive.Goals as goal

pub returns-in_err-count-clause-fault : goal.returns-in_err-count-clause-fault
returns-in_err-count-clause-fault c =
    let old = c.args.self.now in
    let none : old.over ≡ None = none_of old.over c.if-is_some.ensures in
    on_err c.from_residual.result (λ came sent took gave law. record {
      later = law.later;
      trail = law.trail;
      arrived = law.arrived;
      behind = law.behind;
      law = c.in_err-count.ensures.fault law.trail law.later (preface ++ sent) took gave law.law;
      is_served = going_served law.trail (serving_view old.serving) old.over (unread old.pipe) _ none c.in_err-count.ensures.number law.is_served;
    })

pub returns-clause-law : goal.returns-clause-law
returns-clause-law c = λ came sent took gave law.
    let old = c.args.self.now in
    let none : old.over ≡ None = none_of old.over c.if-is_some.ensures in
    let part = take c.in_ok-count.count c.args.bytes.now in
    c.work.ensures.stays (came ++ part) sent took gave (record {
      later = law.later ++ part;
      trail = law.trail;
      arrived = ap (λ (t : List ℕ). t ++ part) law.arrived ∙ append_assoc _ law.later part;
      behind = λ less. absurd (omega (arith, less, c.if-self-lt24.false));
      law = c.in_ok-count.ensures.law law.trail law.later (preface ++ sent) took gave law.law;
      is_served = going_served law.trail (serving_view old.serving) old.over (unread old.pipe) _ none c.in_ok-count.ensures.number law.is_served;
    })
