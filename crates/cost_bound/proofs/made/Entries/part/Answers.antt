use Rattle.std.proofs.Common.{◌≡◌, ap, ◌∙◌, arith}
use Rattle.cost_bound.specs.private.Numbers.{capped}
use Rattle.cost_bound.proofs.made.Entries.part.Goals as goal

pub returns : goal.returns
returns c = λ ss are count.
    let fits : c.args.keys ≡ capped c.args.keys = omega arith in
    c.product.ensures _ _ are.2 (fits ∙ ap capped count)
