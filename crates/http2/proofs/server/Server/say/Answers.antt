use Rattle.std.proofs.Common.{◌≡◌, List, ℕ, ◌++◌, None, take, rules}
use Rattle.std.proofs.lemmas.Result.{IfOk-weaker, on_err_weaker}
use Rattle.http2.specs.Frame.{IsStream}
use Rattle.http2.specs.Trail.{Step, preface, AreMoves, Gives}
use Rattle.http2.specs.Lines.{line, unread}
use Rattle.http2.specs.Servings.{serving_view}
use Rattle.http2.proofs.Calls.{none_of}
use Rattle.http2.proofs.Serves.{moves_spoken, going_served, spoke}
use Rattle.http2.proofs.server.Server.say.Goals as goal

pub returns-clause-law : goal.returns-clause-law
returns-clause-law c =
    let old = c.args.self.now in
    let none : old.over ≡ None = none_of old.over c.if-is_some.ensures in
    let live : IsStream old.pipe.number = search rules in
    IfOk-weaker c.say.result
    (λ (n : ℕ). (steps : List Step) × AreMoves old.pipe.number steps × Gives steps (take n c.args.bytes.now) (line old.pipe) (line c.say.new.self)) _
    (λ n written. λ came sent took gave law. record {
      later = law.later;
      trail = written.0 ++ law.trail;
      arrived = law.arrived;
      behind = law.behind;
      law = written.2 law.trail law.later (preface ++ sent) took gave law.law;
      is_served = spoke written.0 law.trail (serving_view old.serving) old.over (unread old.pipe) _ live none c.say.ensures.number
          (moves_spoken old.pipe.number written.0 written.1) law.is_served;
    }) c.say.ensures.law

pub returns-clause-fault : goal.returns-clause-fault
returns-clause-fault c =
    let old = c.args.self.now in
    let none : old.over ≡ None = none_of old.over c.if-is_some.ensures in
    on_err_weaker c.say.result
    (λ adds. λ came sent took gave law. record {
      later = law.later;
      trail = law.trail;
      arrived = law.arrived;
      behind = law.behind;
      law = adds law.trail law.later (preface ++ sent) took gave law.law;
      is_served = going_served law.trail (serving_view old.serving) old.over (unread old.pipe) _ none c.say.ensures.number law.is_served;
    }) c.say.ensures.fault
