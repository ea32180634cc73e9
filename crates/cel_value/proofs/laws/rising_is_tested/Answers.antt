use Rattle.cel_value.proofs.Places.{is_ascending_decides}
use Rattle.cel_value.proofs.laws.rising_is_tested.Goals as goal

pub returns : goal.returns
returns c = is_ascending_decides
