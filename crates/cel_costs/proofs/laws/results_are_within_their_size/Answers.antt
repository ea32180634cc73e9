use Rattle.cel_costs.proofs.Within.{answer_within}
use Rattle.cel_costs.proofs.laws.results_are_within_their_size.Goals as goal

pub returns : goal.returns
returns c e r l ks ls sizes a g sound fits h within is =
    answer_within e ks g r sound l fits ls sizes within a is
