use Rattle.std.proofs.Common.{sym, ◌∙◌}
use Rattle.cel_value.specs.View.{pairs_view}
use Rattle.cel_value.proofs.Same.{longer_entries_differ}
use Rattle.cel_value.proofs.Views.{count_pairs}
use Rattle.cel_value.proofs.equality.same_pairs.Goals as goal

pub returns-then-left-right : goal.returns-then-left-right
returns-then-left-right c =
    longer_entries_differ (pairs_view c.args.left.now) (pairs_view c.args.right.now)
    (λ e. c.if-left-right.true (sym (count_pairs c.args.left.now) ∙ e
    ∙ count_pairs c.args.right.now))
