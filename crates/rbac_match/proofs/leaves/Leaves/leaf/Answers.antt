use Rattle.std.proofs.Common.{◌≡◌, List, length, Some, refl, slice_get}
use Rattle.std.proofs.lemmas.Option.{slice_get_read}
use Rattle.rbac_match.specs.declared.leaves.Leaf.{Leaf}
use Rattle.rbac_match.proofs.LeafLists.{good_found}
use Rattle.rbac_match.proofs.leaves.Leaves.leaf.Goals as goal

pub returns-in-Some : goal.returns-in-Some
returns-in-Some c =
    let leaves : List Leaf = c.deref.result.now in
    let there = c.in-Some.ensures.lookup in
    let found : slice_get leaves c.args.place ≡ Some c.in-Some.leaf.now = slice_get_read leaves (length leaves) c.args.place c.in-Some.leaf.now refl there.3.0 there.1 in
    good_found c.self.inside.pool c.self.inside.leaves.items c.args.place c.in-Some.leaf.now c.self.invariant (rw c.deref.ensures.value at found)
