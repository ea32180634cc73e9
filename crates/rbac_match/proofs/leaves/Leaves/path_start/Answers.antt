use Rattle.std.proofs.Common.{◌≡◌, List, length, Some, refl, sym, ap, ◌∙◌, slice_get}
use Rattle.std.proofs.lemmas.Option.{slice_get_read}
use Rattle.rbac_match.specs.declared.leaves.Leaf.{Leaf}
use Rattle.rbac_match.specs.private.Leaves.{passes_at}
use Rattle.rbac_match.proofs.LeafLists.{good_found, test_found}
use Rattle.rbac_match.proofs.leaves.Leaves.path_start.Goals as goal

pub leaf_start-requires : goal.leaf_start-requires
leaf_start-requires c =
    let leaves : List Leaf = c.deref.result.now in
    let there = c.in-Some.ensures.lookup in
    let found : slice_get leaves c.args.place ≡ Some c.in-Some.leaf.now = slice_get_read leaves (length leaves) c.args.place c.in-Some.leaf.now refl there.3.0 there.1 in
    good_found c.self.inside.pool c.self.inside.leaves.items c.args.place c.in-Some.leaf.now c.self.invariant (rw c.deref.ensures.value at found)

pub returns-in-Some : goal.returns-in-Some
returns-in-Some c =
    let leaves : List Leaf = c.deref.result.now in
    let there = c.in-Some.ensures.lookup in
    let found : slice_get leaves c.args.place ≡ Some c.in-Some.leaf.now = slice_get_read leaves (length leaves) c.args.place c.in-Some.leaf.now refl there.3.0 there.1 in
    let at = test_found c.self.inside.pool c.self.inside.leaves.items c.args.self.now c.args.place c.in-Some.leaf.now c.self.view_is (rw c.deref.ensures.value at found) in
    λ r passes. c.leaf_start.ensures r (sym (ap (λ o. passes_at o r) at) ∙ passes)
