use Rattle.std.proofs.Common.{◌≡◌, drop}
use Rattle.cel_value.specs.View.{values_view, entries_view}
use Rattle.cel_value.specs.Masses.{items_mass, entries_mass, left_of}
use Rattle.cel_value.proofs.mass.+spend.Given as goal

abbrev pub invariant-spend_items-loop-item : goal.invariant-spend_items-loop-item
invariant-spend_items-loop-item l =
    left_of l.rest (items_mass (values_view (drop l.item-index l.items)))
    ≡ left_of l.left (items_mass (values_view l.items))

abbrev pub invariant-spend_entries-loop-entry : goal.invariant-spend_entries-loop-entry
invariant-spend_entries-loop-entry l =
    left_of l.rest (entries_mass (entries_view (drop l.entry-index l.entries)))
    ≡ left_of l.left (entries_mass (entries_view l.entries))
