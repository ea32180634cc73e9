use Rattle.rbac_match.proofs.list.RuleList.shrink.Goals as goal

pub invariant_of-self : goal.invariant_of-self
invariant_of-self c = rw (c.shrink_to_fit.ensures.items, c.shrink.ensures) c.self.invariant

pub returns : goal.returns
returns c = rw (c.shrink_to_fit.ensures.items, c.shrink.ensures) c.self.view_is
