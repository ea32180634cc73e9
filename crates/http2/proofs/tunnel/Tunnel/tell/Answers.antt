use Rattle.std.proofs.Common.{◌++◌, refl}
use Rattle.http2.specs.Lines.{unread}
use Rattle.http2.specs.Controls.{control_view}
use Rattle.http2.proofs.Calls.{step_of, away_own, quiet_after}
use Rattle.http2.proofs.tunnel.Tunnel.tell.Goals as goal

pub returns-clause-keeps : goal.returns-clause-keeps
returns-clause-keeps c =
    let old = c.args.self.now in
    let written = step_of c.control.result old.pipe c.control.new.self _ c.control.ensures.law c.control.ensures.fault
    (λ frame is. away_own frame _ refl is) in
    λ first came sent took gave law. record {
      trail = written.0 ++ law.trail;
      law = written.2 law.trail came sent took gave law.law;
      is_after = rw c.control.ensures.unread
          (quiet_after first written.0 law.trail (control_view old.control) old.end (unread old.pipe) written.1 law.is_after);
    }
