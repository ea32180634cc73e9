use Rattle.rbac_match.proofs.NeedLemmas.{if_some_more}
use Rattle.rbac_match.proofs.needs.rule_value.Goals as goal

pub returns-in_default : goal.returns-in_default
returns-in_default c = if_some_more c.test_value.result _ _ (λ need only r matches. only c.args.inside.now r matches) c.test_value.ensures
