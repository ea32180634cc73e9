use Rattle.std.proofs.Common.{◌++◌}
use Rattle.http2.specs.Lines.{unread}
use Rattle.http2.specs.Controls.{control_view}
use Rattle.http2.proofs.Calls.{quiet_after, own_of}
use Rattle.http2.proofs.tunnel.Tunnel.finish.Goals as goal

pub returns-in_err-finish-clause-keeps : goal.returns-in_err-finish-clause-keeps
returns-in_err-finish-clause-keeps c =
    let old = c.args.self.now in
    let written = c.in_err-finish.ensures.law in
    λ first came sent took gave law. record {
      trail = written.0 ++ law.trail;
      law = written.2 law.trail came sent took gave law.law;
      is_after = rw c.in_err-finish.ensures.unread
          (quiet_after first written.0 law.trail (control_view old.control) old.end (unread old.pipe) (own_of old.pipe.number written.0 old.one written.1) law.is_after);
    }

pub returns-clause-keeps : goal.returns-clause-keeps
returns-clause-keeps c =
    let old = c.args.self.now in
    let written = c.in_ok-finish.ensures.law in
    λ first came sent took gave law. record {
      trail = written.0 ++ law.trail;
      law = written.2 law.trail came sent took gave law.law;
      is_after = rw c.in_ok-finish.ensures.unread
          (quiet_after first written.0 law.trail (control_view old.control) old.end (unread old.pipe) (own_of old.pipe.number written.0 old.one written.1) law.is_after);
    }
