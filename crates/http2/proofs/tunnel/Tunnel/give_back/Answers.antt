use Rattle.std.proofs.Common.{Some, ◌++◌, refl}
use Rattle.http2.specs.Lines.{unread}
use Rattle.http2.specs.Controls.{control_view}
use Rattle.http2.specs.Call.{by_memory}
use Rattle.http2.specs.declared.end.End.{End}
use Rattle.http2.specs.declared.end.End.TheVariants.{Broken}
use Rattle.http2.specs.declared.fault.Fault.TheVariants.{Memory}
use Rattle.http2.proofs.Calls.{begins_own, quiet_after, going_after, is_ended, own_of}
use Rattle.http2.proofs.tunnel.Tunnel.give_back.Goals as goal

pub returns-then-is_err-clause-keeps : goal.returns-then-is_err-clause-keeps
returns-then-is_err-clause-keeps c =
    let old = c.args.self.now in
    let written = c.give_back.ensures.law in
    let end : End = Broken Memory in
    λ first came sent took gave law. record {
      trail = written.0 ++ law.trail;
      law = written.2 law.trail came sent took gave law.law;
      is_after = is_ended first (written.0 ++ law.trail) (control_view old.control) (Some end) _ end refl
          (begins_own first written.0 law.trail (own_of old.pipe.number written.0 old.one written.1) law.is_after.begins) (by_memory refl);
    }

pub returns-else-is_err-clause-keeps : goal.returns-else-is_err-clause-keeps
returns-else-is_err-clause-keeps c =
    let old = c.args.self.now in
    let written = c.give_back.ensures.law in
    λ first came sent took gave law. record {
      trail = written.0 ++ law.trail;
      law = written.2 law.trail came sent took gave law.law;
      is_after = going_after first (written.0 ++ law.trail) (control_view old.control) old.end (unread old.pipe) _ c.requires
          (quiet_after first written.0 law.trail (control_view old.control) old.end (unread old.pipe) (own_of old.pipe.number written.0 old.one written.1) law.is_after);
    }
