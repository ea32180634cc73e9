use Rattle.std.proofs.Common.{◌++◌, Option, sym, ap, true≢false, is_some, ◌∙◌}
use Rattle.http2.specs.Trail.{preface}
use Rattle.http2.specs.Lines.{unread}
use Rattle.http2.specs.Servings.{serving_view}
use Rattle.http2.specs.declared.over.Over.{Over}
use Rattle.http2.proofs.Serves.{away_spoken, spoken_step, spoken_served}
use Rattle.http2.proofs.server.Server.tell.Goals as goal

pub returns-clause-stays : goal.returns-clause-stays
returns-clause-stays c =
    let old = c.args.self.now in
    let written = spoken_step c.control.result old.pipe c.control.new.self _ c.control.ensures.law c.control.ensures.fault
    (λ frame is. away_spoken old.pipe.number frame _ is) in
    λ came sent took gave law. record {
      later = law.later;
      trail = written.0 ++ law.trail;
      arrived = law.arrived;
      behind = law.behind;
      law = written.2 law.trail law.later (preface ++ sent) took gave law.law;
      is_served = rw c.control.ensures.unread
          (spoken_served written.0 law.trail (serving_view old.serving) old.over (unread old.pipe) written.1
          (λ none. absurd (true≢false (sym c.requires ∙ ap (λ (o : Option Over). is_some o) none))) law.is_served);
    }
