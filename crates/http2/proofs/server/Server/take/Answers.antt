use Rattle.std.proofs.Common.{◌≡◌, ◌++◌, None, take, rules}
use Rattle.http2.specs.Frame.{IsStream}
use Rattle.http2.specs.Trail.{preface}
use Rattle.http2.specs.Lines.{unread}
use Rattle.http2.specs.Servings.{serving_view}
use Rattle.http2.specs.Served.{IsServed}
use Rattle.http2.proofs.Calls.{none_of}
use Rattle.http2.proofs.Serves.{moves_spoken, spoke}
use Rattle.http2.proofs.server.Server.take.Goals as goal

pub returns-then-is_some : goal.returns-then-is_some
returns-then-is_some c = λ came sent took gave law. record {
  later = law.later;
  trail = law.trail;
  arrived = law.arrived;
  behind = law.behind;
  law = c.take.ensures.law law.trail law.later (preface ++ sent) took gave law.law;
  is_served = rw c.take.ensures.unread law.is_served;
}

pub returns-then-out-gt-PENDING : goal.returns-then-out-gt-PENDING
returns-then-out-gt-PENDING c = λ came sent took gave law. record {
  later = law.later;
  trail = law.trail;
  arrived = law.arrived;
  behind = law.behind;
  law = c.take.ensures.law law.trail law.later (preface ++ sent) took gave law.law;
  is_served = rw c.take.ensures.unread law.is_served;
}

pub returns-then-not-is_open : goal.returns-then-not-is_open
returns-then-not-is_open c = λ came sent took gave law. record {
  later = law.later;
  trail = law.trail;
  arrived = law.arrived;
  behind = law.behind;
  law = c.take.ensures.law law.trail law.later (preface ++ sent) took gave law.law;
  is_served = rw c.take.ensures.unread law.is_served;
}

pub returns : goal.returns
returns c = λ came sent took gave law.
    let old = c.args.self.now in
    let none : old.over ≡ None = none_of old.over c.if-is_some.ensures in
    let written = c.give_back.ensures.law in
    let live : IsStream c.take.new.self.number = search rules in
    let part = take c.args.count old.pipe.data_in in
    let first : IsServed law.trail (serving_view old.serving) old.over (unread c.take.new.self) =
    rw c.take.ensures.unread law.is_served in record {
      later = law.later;
      trail = written.0 ++ law.trail;
      arrived = law.arrived;
      behind = law.behind;
      law = written.2 law.trail law.later (preface ++ sent) (took ++ part) gave
          (c.take.ensures.law law.trail law.later (preface ++ sent) took gave law.law);
      is_served = spoke written.0 law.trail (serving_view old.serving) old.over (unread c.take.new.self) _ live none c.give_back.ensures.number
          (moves_spoken c.take.new.self.number written.0 written.1) first;
    }
