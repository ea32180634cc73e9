use Rattle.std.proofs.Common.{take, ◌++◌, subst, List, ℕ, append_assoc}
use Rattle.http2.specs.Trail.{preface, Law}
use Rattle.http2.specs.Lines.{line}
use Rattle.http2.proofs.server.Server.sent.Goals as goal

pub returns : goal.returns
returns c = λ came sent took gave law.
    let old = c.args.self.now in
    let part = take c.args.count old.pipe.out in
    record {
      later = law.later;
      trail = law.trail;
      arrived = law.arrived;
      behind = law.behind;
      law = subst (λ (t : List ℕ). Law law.trail law.later t took gave (line c.sent.new.self)) (append_assoc preface sent part)
          (c.sent.ensures.law law.trail law.later (preface ++ sent) took gave law.law);
      is_served = rw c.sent.ensures.unread law.is_served;
    }
