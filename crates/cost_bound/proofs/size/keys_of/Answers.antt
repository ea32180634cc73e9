use Rattle.std.proofs.Common.{refl}
use Rattle.cost_bound.proofs.SizeViews.{keys_of_texts}
use Rattle.cost_bound.proofs.size.keys_of.Goals as goal

pub returns-then-number-eq0 : goal.returns-then-number-eq0
returns-then-number-eq0 c = rw c.if-number-eq0.true refl

pub returns : goal.returns
returns c = keys_of_texts c.args.number c.if-number-eq0.false
