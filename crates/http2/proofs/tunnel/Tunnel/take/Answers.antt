use Rattle.std.proofs.Common.{◌∙◌, ◌≡◌, None, ◌++◌, take}
use Rattle.http2.specs.Lines.{unread}
use Rattle.http2.specs.Controls.{control_view}
use Rattle.http2.proofs.Calls.{none_of, quiet_after, going_after, own_of}
use Rattle.http2.proofs.tunnel.Tunnel.take.Goals as goal

pub returns-then-is_some : goal.returns-then-is_some
returns-then-is_some c = λ first came sent took gave law. record {
  trail = law.trail;
  law = c.take.ensures.law law.trail came sent took gave law.law;
  is_after = rw c.take.ensures.unread law.is_after;
}

pub returns-then-out-gt-PENDING : goal.returns-then-out-gt-PENDING
returns-then-out-gt-PENDING c = λ first came sent took gave law. record {
  trail = law.trail;
  law = c.take.ensures.law law.trail came sent took gave law.law;
  is_after = rw c.take.ensures.unread law.is_after;
}

pub returns : goal.returns
returns c = λ first came sent took gave law.
    let old = c.args.self.now in
    let none : old.end ≡ None = none_of old.end c.if-is_some.ensures in
    let written = c.give_back.ensures.law in
    record {
      trail = written.0 ++ law.trail;
      law = written.2 law.trail came sent (took ++ take c.args.count old.pipe.data_in) gave
          (c.take.ensures.law law.trail came sent took gave law.law);
      is_after = going_after first (written.0 ++ law.trail) (control_view old.control) old.end (unread old.pipe) _ none
          (quiet_after first written.0 law.trail (control_view old.control) old.end (unread old.pipe) (own_of c.take.new.self.number written.0 (c.take.ensures.number ∙ old.one) written.1) law.is_after);
    }
