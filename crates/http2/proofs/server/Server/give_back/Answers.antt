use Rattle.std.proofs.Common.{List, ◌++◌, refl, sym, ap, append_assoc, rules, ◌∙◌}
use Rattle.http2.specs.Frame.{IsStream}
use Rattle.http2.specs.Trail.{Step, preface}
use Rattle.http2.specs.Lines.{unread}
use Rattle.http2.specs.Servings.{serving_view}
use Rattle.http2.specs.Served.{by_memory}
use Rattle.http2.specs.declared.over.Over.{Over}
use Rattle.http2.specs.declared.over.Over.TheVariants.{Broken}
use Rattle.http2.specs.declared.fault.Fault.TheVariants.{Memory}
use Rattle.http2.proofs.Serves.{moves_spoken, over_served, said_append, spoken_said, spoke}
use Rattle.http2.proofs.server.Server.give_back.Goals as goal

pub returns-then-is_err : goal.returns-then-is_err
returns-then-is_err c =
    let old = c.args.self.now in
    let written = c.give_back.ensures.law in
    let over : Over = Broken Memory in
    let spoken = moves_spoken old.pipe.number written.0 written.1 in
    record {
      stays = λ came sent took gave law.
          let is = law.is_served in record {
            later = law.later;
            trail = written.0 ++ law.trail;
            arrived = law.arrived;
            behind = law.behind;
            law = written.2 law.trail law.later (preface ++ sent) took gave law.law;
            is_served = over_served (written.0 ++ law.trail) (serving_view old.serving) (unread old.pipe) _ over c.give_back.ensures.number
                (written.0 ++ is.later) (ap (λ (t : List Step). written.0 ++ t) is.whole ∙ sym (append_assoc written.0 is.later _))
                (said_append old.pipe.number written.0 is.later (spoken_said old.pipe.number written.0 spoken) is.said) (by_memory refl);
          };
    }

pub returns-else-is_err : goal.returns-else-is_err
returns-else-is_err c =
    let old = c.args.self.now in
    let written = c.give_back.ensures.law in
    let live : IsStream old.pipe.number = search rules in
    record {
      stays = λ came sent took gave law. record {
        later = law.later;
        trail = written.0 ++ law.trail;
        arrived = law.arrived;
        behind = law.behind;
        law = written.2 law.trail law.later (preface ++ sent) took gave law.law;
        is_served = spoke written.0 law.trail (serving_view old.serving) old.over (unread old.pipe) _ live c.requires c.give_back.ensures.number
            (moves_spoken old.pipe.number written.0 written.1) law.is_served;
      };
    }
