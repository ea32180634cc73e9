use Rattle.cel_types.proofs.OneVariable.{one_variable}
use Rattle.cel_types.proofs.laws.one_variable_is_a_fold.Goals as goal

pub returns : goal.returns
returns c = one_variable
