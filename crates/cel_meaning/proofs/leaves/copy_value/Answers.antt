use Rattle.std.proofs.Common.{IsTrue, sym, ap, ◌∙◌}
use Rattle.std.specs.FinMap.{entries, from_sorted, is_sorted}
use Rattle.attributes.specs.Headers.{headers_view, name_cmp}
use Rattle.cel_value.specs.Values.{map_of}
use Rattle.cel_value.proofs.Views.{view_map, view_texts}
use Rattle.cel_ops.specs.Attributes.{header_entries}
use Rattle.cel_meaning.proofs.PlainSteps.{seen_headers}
use Rattle.cel_meaning.proofs.leaves.copy_value.Goals as goal

pub returns-in_ok-to_pairs-in-Pairs : goal.returns-in_ok-to_pairs-in-Pairs
returns-in_ok-to_pairs-in-Pairs c =
    let copy = c.in_ok-to_pairs-in-Pairs.field-0 in
    let items = copy.value.items in
    let sorted : IsTrue (is_sorted name_cmp (headers_view items)) =
    rw c.in_ok-to_pairs-in-Pairs.ensures (rw c.in-Pairs.is at c.requires) in
    rw (c.in-Pairs.is, view_map _, view_texts copy)
    (ap map_of (sym (seen_headers items sorted))
    ∙ ap (λ es. map_of (header_entries (entries (from_sorted {R = name_cmp} es)))) c.in_ok-to_pairs-in-Pairs.ensures)
