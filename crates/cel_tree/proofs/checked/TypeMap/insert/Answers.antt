use Rattle.std.proofs.Common.{◌≡◌, w64, to_z, of_z, to_z-of_z, ap, ◌∙◌}
use Rattle.std.specs.FinMap.{put}
use Rattle.std.specs.Ordering.{int_cmp}
use Rattle.cel_tree.specs.View.{type_entry_view}
use Rattle.cel_tree.proofs.IdMaps.{seen, seen_put}
use Rattle.cel_tree.proofs.checked.TypeMap.insert.Goals as goal

pub returns : goal.returns
returns c =
    let old = c.args.self.now.entries in
    let same : to_z w64 (of_z w64 c.args.id) ≡ c.args.id = to_z-of_z c.ranges.id in
    ap (seen type_entry_view) (c.in_ok-insert.ensures ∙ ap (λ k. put int_cmp k c.args.entry old) same)
    ∙ seen_put type_entry_view old c.args.id c.args.entry
