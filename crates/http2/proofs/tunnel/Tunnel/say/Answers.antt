use Rattle.std.proofs.Common.{◌≡◌, ℕ, List, None, ◌++◌, take}
use Rattle.std.proofs.lemmas.Result.{IfOk-weaker, on_err_weaker}
use Rattle.http2.specs.Lines.{line, unread}
use Rattle.http2.specs.Trail.{Step, AreMoves, Gives}
use Rattle.http2.specs.Controls.{control_view}
use Rattle.http2.proofs.Calls.{none_of, quiet_after, going_after, own_of}
use Rattle.http2.proofs.tunnel.Tunnel.say.Goals as goal

pub returns-clause-law : goal.returns-clause-law
returns-clause-law c =
    let old = c.args.self.now in
    let none : old.end ≡ None = none_of old.end c.if-is_some.ensures in
    IfOk-weaker c.say.result
    (λ (n : ℕ). (steps : List Step) × AreMoves old.pipe.number steps × Gives steps (take n c.args.bytes.now) (line old.pipe) (line c.say.new.self)) _
    (λ n written. λ first came sent took gave law. record {
      trail = written.0 ++ law.trail;
      law = written.2 law.trail came sent took gave law.law;
      is_after = going_after first (written.0 ++ law.trail) (control_view old.control) old.end (unread old.pipe) _ none
          (quiet_after first written.0 law.trail (control_view old.control) old.end (unread old.pipe) (own_of old.pipe.number written.0 old.one written.1) law.is_after);
    }) c.say.ensures.law

pub returns-clause-fault : goal.returns-clause-fault
returns-clause-fault c =
    let old = c.args.self.now in
    let none : old.end ≡ None = none_of old.end c.if-is_some.ensures in
    on_err_weaker c.say.result
    (λ adds. λ first came sent took gave law. record {
      trail = law.trail;
      law = adds law.trail came sent took gave law.law;
      is_after = going_after first law.trail (control_view old.control) old.end (unread old.pipe) _ none law.is_after;
    }) c.say.ensures.fault
