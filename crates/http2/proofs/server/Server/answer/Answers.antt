use Rattle.std.proofs.Common.{◌≡◌, List, [], ◌∷◌, ◌++◌, None, rules}
use Rattle.http2.specs.Frame.{IsStream}
use Rattle.http2.specs.Trail.{Step, put, preface}
use Rattle.http2.specs.Lines.{unread}
use Rattle.http2.specs.Servings.{serving_view}
use Rattle.http2.proofs.Calls.{none_of}
use Rattle.http2.proofs.Serves.{heads_spoken, spoke}
use Rattle.http2.proofs.server.Server.answer.Goals as goal

pub returns-clause-stays : goal.returns-clause-stays
returns-clause-stays c =
    let old = c.args.self.now in
    let none : old.over ≡ None = none_of old.over c.if-is_some.ensures in
    let live : IsStream old.pipe.number = search rules in
    let written = c.in_ok-head.ensures.law in
    let spoken = heads_spoken old.pipe.number 4 _ written.0 written.1 in
    let steps : List Step = put written.0 ∷ [] in
    λ came sent took gave law. record {
      later = law.later;
      trail = steps ++ law.trail;
      arrived = law.arrived;
      behind = law.behind;
      law = written.3 law.trail law.later (preface ++ sent) took gave law.law;
      is_served = spoke steps law.trail (serving_view old.serving) old.over (unread old.pipe) _ live none c.in_ok-head.ensures.number spoken law.is_served;
    }
