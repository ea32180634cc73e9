use Rattle.std.proofs.Common.{◌∷◌, ◌++◌, [], List, ap₂, ◌∙◌}
use Rattle.std.proofs.lemmas.List.{map-append}
use Rattle.rbac_match.specs.declared.matcher.Matcher.{Matcher}
use Rattle.rbac_match.specs.private.Leaves.{leaf_in}
use Rattle.rbac_match.proofs.LeafLists.{are_good_stay, leaves_stay, are_good_push}
use Rattle.rbac_match.proofs.Exits.{at_err}
use Rattle.rbac_match.proofs.leaves.Leaves.push.Goals as goal

pub invariant_of-self : goal.invariant_of-self
invariant_of-self c = are_good_stay c.self.inside.pool c.leaf_of.new.pool c.leaf_of.ensures.grows c.self.inside.leaves.items c.self.invariant

pub returns-in_err-leaf-clause-kept : goal.returns-in_err-leaf-clause-kept
returns-in_err-leaf-clause-kept c =
    at_err c.from_residual-in_err-leaf.result
    (leaves_stay c.self.inside.pool c.leaf_of.new.pool c.leaf_of.ensures.grows c.self.inside.leaves.items c.self.invariant ∙ c.self.view_is)

pub invariant_of-self-in_err-push : goal.invariant_of-self-in_err-push
invariant_of-self-in_err-push c = rw c.in_err-push.ensures.items
    (are_good_stay c.self.inside.pool c.leaf_of.new.pool c.leaf_of.ensures.grows c.self.inside.leaves.items c.self.invariant)

pub returns-in_err-push-clause-kept : goal.returns-in_err-push-clause-kept
returns-in_err-push-clause-kept c =
    at_err c.from_residual-in_err-push.result (rw c.in_err-push.ensures.items
    (leaves_stay c.self.inside.pool c.leaf_of.new.pool c.leaf_of.ensures.grows c.self.inside.leaves.items c.self.invariant ∙ c.self.view_is))

pub invariant_of-self-2 : goal.invariant_of-self-2
invariant_of-self-2 c = rw c.in_ok-push.ensures.items
    (are_good_push c.leaf_of.new.pool c.self.inside.leaves.items c.in_ok-leaf.leaf
    (are_good_stay c.self.inside.pool c.leaf_of.new.pool c.leaf_of.ensures.grows c.self.inside.leaves.items c.self.invariant)
    c.in_ok-leaf.ensures.found.0)

pub returns-clause-pushed : goal.returns-clause-pushed
returns-clause-pushed c =
    let stay = leaves_stay c.self.inside.pool c.leaf_of.new.pool c.leaf_of.ensures.grows c.self.inside.leaves.items c.self.invariant ∙ c.self.view_is in
    rw (c.in_ok-push.ensures.items, map-append (leaf_in c.leaf_of.new.pool) c.self.inside.leaves.items (c.in_ok-leaf.leaf ∷ []))
    (ap₂ (λ (a : List Matcher) (m : Matcher). a ++ m ∷ []) stay c.in_ok-leaf.ensures.found.1)
