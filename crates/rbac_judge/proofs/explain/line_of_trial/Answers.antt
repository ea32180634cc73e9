use Rattle.rbac_judge.proofs.explain.line_of_trial.Goals as goal

pub returns : goal.returns
returns c =
    let name = rw c.as_str.ensures.value at c.in_ok-name.ensures in
    rw (c.as_str-2.ensures.value, name) at c.line_with.ensures
