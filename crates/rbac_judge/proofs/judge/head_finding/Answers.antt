use Rattle.std.proofs.lemmas.Result.{IfOk-weaker}
use Rattle.rbac_judge.proofs.JudgeLemmas.{under_found}
use Rattle.rbac_judge.proofs.judge.head_finding.Goals as goal

pub returns-clause-outcome : goal.returns-clause-outcome
returns-clause-outcome g c =
    let (bytes, all, is) = rw (c.limits.ensures, c.requires) at c.in_ok-found.ensures.found in
    let finding = c.in_ok-finding_of_ask in
    (bytes, all, under_found _ _ bytes c.in_ok-found.found _ _ is finding.ensures.outcome finding.ensures.explanation)
