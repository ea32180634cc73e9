use Rattle.std.proofs.Common.{sym, ap, ◌∙◌}
use Rattle.cel_costs.specs.Costs.{join_all, masses}
use Rattle.cost_bound.specs.private.Numbers.{capped}
use Rattle.cost_bound.specs.private.SizeView.{size_view}
use Rattle.cost_bound.proofs.Turns.{keys_of_more, values_of_more}
use Rattle.cost_bound.proofs.made.Entries.from_before.Goals as goal

pub returns : goal.returns
returns c = λ ss are.
    let keys = keys_of_more (size_view c.args.size) ss in
    let values = values_of_more (size_view c.args.size) ss in (
      (rw are.1 at c.in_ok-keys.ensures) ∙ sym (ap join_all keys),
      are.0 ∙ sym (ap join_all values),
      c.sum-key_mass.ensures _ _ c.mass.ensures are.3 ∙ ap capped (sym (ap masses keys)),
      are.2 ∙ ap capped (sym (ap masses values)),
    )
