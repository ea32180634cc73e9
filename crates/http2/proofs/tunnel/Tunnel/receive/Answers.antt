use Rattle.std.proofs.Common.{◌≡◌, None, ◌++◌, take}
use Rattle.http2.specs.Lines.{unread}
use Rattle.http2.specs.Controls.{control_view}
use Rattle.http2.proofs.Calls.{none_of, on_err, going_after}
use Rattle.http2.proofs.tunnel.Tunnel.receive.Goals as goal

pub returns-in_err-count-clause-fault : goal.returns-in_err-count-clause-fault
returns-in_err-count-clause-fault c =
    let old = c.args.self.now in
    let none : old.end ≡ None = none_of old.end c.if-is_some.ensures in
    on_err c.from_residual.result (λ first came sent took gave law. record {
      trail = law.trail;
      law = c.in_err-count.ensures.fault law.trail came sent took gave law.law;
      is_after = going_after first law.trail (control_view old.control) old.end (unread old.pipe) _ none law.is_after;
    })

pub returns-clause-law : goal.returns-clause-law
returns-clause-law c = λ first came sent took gave law.
    let old = c.args.self.now in
    let none : old.end ≡ None = none_of old.end c.if-is_some.ensures in
    c.work.ensures.keeps first (came ++ take c.in_ok-count.count c.args.bytes.now) sent took gave (record {
      trail = law.trail;
      law = c.in_ok-count.ensures.law law.trail came sent took gave law.law;
      is_after = going_after first law.trail (control_view old.control) old.end (unread old.pipe) _ none law.is_after;
    })
