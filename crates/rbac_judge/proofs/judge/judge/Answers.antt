use Rattle.std.proofs.lemmas.Result.{IfErr-weaker}
use Rattle.rbac_judge.proofs.JudgeLemmas.{found_under, given_under, some_bytes}
use Rattle.rbac_judge.proofs.judge.judge.Goals as goal

pub returns-in-Ok-clause-found : goal.returns-in-Ok-clause-found
returns-in-Ok-clause-found g c =
    let admits = c.in-Ok.ensures.found.1 in
    found_under _ _ _ (g.R.Read.remaining c.args.input) _ _ admits c.head_finding.result c.memory_as_finding.result
    c.head_finding.ensures.outcome c.head_finding.ensures.name c.memory_as_finding.ensures.kept c.memory_as_finding.ensures.memory

pub returns-in-Ok-clause-given : goal.returns-in-Ok-clause-given
returns-in-Ok-clause-given g c =
    given_under _ c.head_finding.result c.memory_as_finding.result c.head_finding.ensures.given
    c.memory_as_finding.ensures.kept c.memory_as_finding.ensures.memory

pub returns-in-Ok-clause-fault : goal.returns-in-Ok-clause-fault
returns-in-Ok-clause-fault g c =
    let admits = c.in-Ok.ensures.found.1 in
    IfErr-weaker c.memory_as_finding.result _ _ (λ e others. (others.1, (c.in-Ok.ensures.found.0, admits.admissible)))
    c.memory_as_finding.ensures.others

pub returns-in-Err-clause-found : goal.returns-in-Err-clause-found
returns-in-Err-clause-found g c =
    let fault = c.in-Err.ensures.fault in
    let (bytes, all) = some_bytes (g.R.Read.remaining c.args.input) in
    rw c.bare.ensures (bytes, all, fault)

pub returns-in-Err-clause-given : goal.returns-in-Err-clause-given
returns-in-Err-clause-given g c = rw c.bare.ensures (λ given. absurd given, λ p. p.1)
