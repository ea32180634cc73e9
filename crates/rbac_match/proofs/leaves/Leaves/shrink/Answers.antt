use Rattle.std.proofs.Common.{◌∙◌}
use Rattle.rbac_match.proofs.LeafLists.{are_good_stay, leaves_stay}
use Rattle.rbac_match.proofs.leaves.Leaves.shrink.Goals as goal

pub invariant_of-self : goal.invariant_of-self
invariant_of-self c = rw c.shrink_to_fit.ensures.items
    (are_good_stay c.self.inside.pool c.shrink.new.self c.shrink.ensures c.self.inside.leaves.items c.self.invariant)

pub returns : goal.returns
returns c = rw c.shrink_to_fit.ensures.items
    (leaves_stay c.self.inside.pool c.shrink.new.self c.shrink.ensures c.self.inside.leaves.items c.self.invariant ∙ c.self.view_is)
