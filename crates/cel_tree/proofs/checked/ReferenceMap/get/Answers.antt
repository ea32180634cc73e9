use Rattle.std.proofs.Common.{◌≡◌, w64, to_z, of_z, to_z-of_z}
use Rattle.cel_tree.specs.View.{reference_view}
use Rattle.cel_tree.proofs.IdMaps.{seen_get}
use Rattle.cel_tree.proofs.checked.ReferenceMap.get.Goals as goal

pub returns : goal.returns
returns c =
    let same : to_z w64 (of_z w64 c.args.id) ≡ c.args.id = to_z-of_z c.ranges.id in
    seen_get reference_view c.args.self.now.entries c.args.id c.get.result (rw same at c.get.ensures)
