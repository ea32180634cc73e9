use Rattle.cel_value.proofs.Walking.{pairs_ascend}
use Rattle.cel_value.proofs.laws.sorted_names_are_a_map.Goals as goal

pub returns : goal.returns
returns c = pairs_ascend
