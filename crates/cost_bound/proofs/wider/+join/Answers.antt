use Rattle.cel_value.specs.Types.{type_view}
use Rattle.cel_costs.specs.Sizes.{Many, Table, least}
use Rattle.cost_bound.specs.private.SizeView.{least_of_keys, size_view}
use Rattle.cost_bound.proofs.JoinedParts.{join_comm}
use Rattle.cost_bound.proofs.SizeViews.{view_no_entries, view_no_items}
use Rattle.cost_bound.proofs.wider.+join.Goals as goal

pub join_parts-returns-in-NoItems-right : goal.join_parts-returns-in-NoItems-right
join_parts-returns-in-NoItems-right t c =
    let joined = rw c.deref-in-NoItems-right.ensures at c.join_no_items.ensures in
    rw (
      c.in-NoItems-right.is,
      view_no_items c.in-NoItems-right.others,
      join_comm (size_view c.args.left.now) (Many 0 (least (type_view c.in-NoItems-right.others.value))),
    )
    joined

pub join_parts-returns-in-NoEntries-right : goal.join_parts-returns-in-NoEntries-right
join_parts-returns-in-NoEntries-right t c =
    let joined = rw (c.deref-in-NoEntries-right.ensures, c.keys_of.ensures) at c.join_no_entries.ensures in
    rw (
      c.in-NoEntries-right.is,
      view_no_entries c.in-NoEntries-right.keys c.in-NoEntries-right.kind,
      join_comm (size_view c.args.left.now)
          (Table 0 (least_of_keys c.in-NoEntries-right.keys) (least (type_view c.in-NoEntries-right.kind.value))),
    )
    joined

pub join_parts-returns-in-NoItems-right-2 : goal.join_parts-returns-in-NoItems-right-2
join_parts-returns-in-NoItems-right-2 t c =
    let joined = rw c.deref-in-NoItems-right-2.ensures at c.join_no_items-in-NoItems-right-2.ensures in
    rw (
      c.in-NoItems-right-2.is,
      view_no_items c.in-NoItems-right-2.items,
      join_comm (size_view c.args.left.now) (Many 0 (least (type_view c.in-NoItems-right-2.items.value))),
    )
    joined

pub join_parts-returns-in-NoEntries-right-2 : goal.join_parts-returns-in-NoEntries-right-2
join_parts-returns-in-NoEntries-right-2 t c =
    let joined = rw (c.deref-in-NoEntries-right-2.ensures, c.keys_of-in-NoEntries-right-2.ensures)
    at c.join_no_entries-in-NoEntries-right-2.ensures in
    rw (
      c.in-NoEntries-right-2.is,
      view_no_entries c.in-NoEntries-right-2.keys c.in-NoEntries-right-2.kind,
      join_comm (size_view c.args.left.now)
          (Table 0 (least_of_keys c.in-NoEntries-right-2.keys) (least (type_view c.in-NoEntries-right-2.kind.value))),
    )
    joined
