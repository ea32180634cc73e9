use Rattle.std.proofs.Common.{sym, ◌∙◌}
use Rattle.cel_value.specs.View.{entries_view, pairs_view}
use Rattle.cel_value.proofs.Same.{longer_entries_differ}
use Rattle.cel_value.proofs.Views.{count_entries, count_pairs}
use Rattle.cel_value.proofs.equality.entries_are_pairs.Goals as goal

pub returns-then-entries-pairs : goal.returns-then-entries-pairs
returns-then-entries-pairs c =
    longer_entries_differ (entries_view c.args.entries.now) (pairs_view c.args.pairs.now)
    (λ e. c.if-entries-pairs.true (sym (count_entries c.args.entries.now) ∙ e
    ∙ count_pairs c.args.pairs.now))
