use Rattle.std.proofs.Common.{arith}
use Rattle.cost_bound.proofs.Turns.{key_count_fact}
use Rattle.cost_bound.proofs.made.key_count.Goals as goal

pub returns : goal.returns
returns c = λ ss many. let counted = key_count_fact ss in omega (arith, many, counted)
