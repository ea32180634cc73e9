use Rattle.std.proofs.Common.{◌≡◌, List, [], ◌∷◌, ◌++◌, None, refl, ap, rules}
use Rattle.http2.specs.Frame.{IsStream}
use Rattle.http2.specs.Trail.{Step, put, preface}
use Rattle.http2.specs.Lines.{unread}
use Rattle.http2.specs.Servings.{serving_view}
use Rattle.http2.specs.Served.{answered, by_answer}
use Rattle.http2.specs.declared.over.Over.{Over}
use Rattle.http2.specs.declared.over.Over.TheVariants.{Answered}
use Rattle.http2.proofs.Calls.{none_of}
use Rattle.http2.proofs.Serves.{heads_spoken, over_served, said_append, spoken_said}
use Rattle.http2.proofs.server.Server.finish.Goals as goal

pub returns-clause-stays : goal.returns-clause-stays
returns-clause-stays c =
    let old = c.args.self.now in
    let none : old.over ≡ None = none_of old.over c.if-is_some.ensures in
    let live : IsStream old.pipe.number = search rules in
    let written = c.in_ok-head.ensures.law in
    let spoken = heads_spoken old.pipe.number 5 _ written.0 written.1 in
    let steps : List Step = put written.0 ∷ [] in
    λ came sent took gave law.
    let is = law.is_served in
    let over : Over = Answered in record {
      later = law.later;
      trail = steps ++ law.trail;
      arrived = law.arrived;
      behind = law.behind;
      law = written.3 law.trail law.later (preface ++ sent) took gave law.law;
      is_served = over_served (steps ++ law.trail) (serving_view old.serving) (unread old.pipe) _ over c.in_ok-head.ensures.number
          (steps ++ is.later) (ap (λ (t : List Step). steps ++ t) is.whole)
          (said_append old.pipe.number steps is.later (spoken_said old.pipe.number steps spoken) is.said)
          (by_answer (serving_view old.serving) (answered law.trail) (is.going none) refl refl);
    }
