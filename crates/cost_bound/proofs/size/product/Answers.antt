use Rattle.std.proofs.Common.{◌∙◌}
use Rattle.cost_bound.proofs.Capped.{capped_product}
use Rattle.cost_bound.proofs.size.product.Goals as goal

pub returns : goal.returns
returns c = λ m n is other. c.saturating_mul.ensures ∙ (rw (is, other) (capped_product m n))
