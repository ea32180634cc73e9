use Rattle.rbac_match.proofs.needs.rule_start.Goals as goal

pub returns-in_default : goal.returns-in_default
returns-in_default c = λ r matches. c.test_start.ensures c.args.inside.now r matches
