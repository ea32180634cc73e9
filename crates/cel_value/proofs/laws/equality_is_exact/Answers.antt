use Rattle.cel_value.specs.private.EqualityLaws.{key_eq_decides, value_eq_decides}
use Rattle.cel_value.specs.private.EqualityLaws.{type_eq_decides}
use Rattle.cel_value.proofs.laws.equality_is_exact.Goals as goal

pub returns-clause-values : goal.returns-clause-values
returns-clause-values c = value_eq_decides

pub returns-clause-keys : goal.returns-clause-keys
returns-clause-keys c = key_eq_decides

pub returns-clause-types : goal.returns-clause-types
returns-clause-types c = type_eq_decides
