use Rattle.cel_value.proofs.Places.{key_cmp_total, key_cmp_level}
use Rattle.cel_value.proofs.laws.keys_are_ordered.Goals as goal

pub returns-clause-total : goal.returns-clause-total
returns-clause-total c = key_cmp_total

pub returns-clause-level : goal.returns-clause-level
returns-clause-level c = key_cmp_level
