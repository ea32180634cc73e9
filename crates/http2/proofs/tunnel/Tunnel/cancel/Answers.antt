use Rattle.std.proofs.Common.{◌≡◌, Some, None, ◌++◌, refl}
use Rattle.http2.specs.Lines.{unread}
use Rattle.http2.specs.Controls.{control_view}
use Rattle.http2.specs.Trail.{own_reset}
use Rattle.http2.specs.Call.{by_client}
use Rattle.http2.specs.declared.end.End.TheVariants.{Cancelled}
use Rattle.http2.proofs.Calls.{none_of, step_of, quiet_after, is_ended}
use Rattle.http2.proofs.tunnel.Tunnel.cancel.Goals as goal

pub returns-then-out-gt-PENDING-clause-keeps : goal.returns-then-out-gt-PENDING-clause-keeps
returns-then-out-gt-PENDING-clause-keeps c = λ first came sent took gave law.
    let old = c.args.self.now in
    let none : old.end ≡ None = none_of old.end c.if-is_some.ensures in
    record {
      trail = law.trail;
      law = law.law;
      is_after = is_ended first law.trail (control_view old.control) (Some Cancelled) (unread old.pipe) Cancelled refl law.is_after.begins
          (by_client (control_view old.control) (law.is_after.going none) refl refl);
    }

pub returns-clause-keeps : goal.returns-clause-keeps
returns-clause-keeps c = λ first came sent took gave law.
    let old = c.args.self.now in
    let none : old.end ≡ None = none_of old.end c.if-is_some.ensures in
    let written = step_of c.control.result old.pipe c.control.new.self _ c.control.ensures.law c.control.ensures.fault (λ frame is. own_reset is) in
    record {
      trail = written.0 ++ law.trail;
      law = written.2 law.trail came sent took gave law.law;
      is_after = rw c.control.ensures.unread
          (quiet_after first written.0 law.trail (control_view old.control) (Some Cancelled) (unread old.pipe) written.1
          (is_ended first law.trail (control_view old.control) (Some Cancelled) (unread old.pipe) Cancelled refl law.is_after.begins
          (by_client (control_view old.control) (law.is_after.going none) refl refl)));
    }
