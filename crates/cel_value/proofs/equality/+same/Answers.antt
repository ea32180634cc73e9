use Rattle.std.proofs.Common.{sym, ap₂, ◌∙◌}
use Rattle.cel_value.specs.View.{entries_view, map_view, values_view}
use Rattle.cel_value.specs.Equality.{entries_eq}
use Rattle.cel_value.proofs.Same.{longer_differs, longer_entries_differ, entries_eq_symm}
use Rattle.cel_value.proofs.Views.{count_items, count_entries, seen_entries, seen_texts}
use Rattle.cel_value.proofs.equality.+same.Goals as goal

pub same_items-returns-then-left-right : goal.same_items-returns-then-left-right
same_items-returns-then-left-right t c =
    longer_differs (values_view c.args.left.now) (values_view c.args.right.now)
    (λ e. c.if-left-right.true (sym (count_items c.args.left.now) ∙ e
    ∙ count_items c.args.right.now))

pub same_entries-returns-then-left-right : goal.same_entries-returns-then-left-right
same_entries-returns-then-left-right t c =
    longer_entries_differ (entries_view c.args.left.now) (entries_view c.args.right.now)
    (λ e. c.if-left-right.true (sym (count_entries c.args.left.now) ∙ e
    ∙ count_entries c.args.right.now))

pub same_maps-returns-in-Entries-Entries : goal.same_maps-returns-in-Entries-Entries
same_maps-returns-in-Entries-Entries t c =
    let h = c.in-Entries-Entries in
    c.same_entries.ensures ∙ ap₂ entries_eq
    (seen_entries _ h.a _ _ h.is-0 c.deref.ensures c.deref-in-Entries-Entries.ensures.value)
    (seen_entries _ h.b _ _ h.is-1 c.deref-in-Entries-Entries-2.ensures
    c.deref-in-Entries-Entries-3.ensures.value)

pub same_maps-returns-in-Entries-Texts : goal.same_maps-returns-in-Entries-Texts
same_maps-returns-in-Entries-Texts t c =
    let h = c.in-Entries-Texts in
    c.entries_are_pairs.ensures ∙ ap₂ entries_eq
    (seen_entries _ h.a _ _ h.is-0 c.deref-in-Entries-Texts.ensures
    c.deref-in-Entries-Texts-2.ensures.value)
    (seen_texts _ h.b _ _ h.is-1 c.deref-in-Entries-Texts-3.ensures
    c.deref-in-Entries-Texts-4.ensures.value)

pub same_maps-returns-in-Texts-Entries : goal.same_maps-returns-in-Texts-Entries
same_maps-returns-in-Texts-Entries t c =
    let h = c.in-Texts-Entries in
    c.entries_are_pairs-in-Texts-Entries.ensures ∙ ap₂ entries_eq
    (seen_entries _ h.b _ _ h.is-1 c.deref-in-Texts-Entries.ensures
    c.deref-in-Texts-Entries-2.ensures.value)
    (seen_texts _ h.a _ _ h.is-0 c.deref-in-Texts-Entries-3.ensures
    c.deref-in-Texts-Entries-4.ensures.value)
    ∙ entries_eq_symm (map_view c.args.right.now) (map_view c.args.left.now)
