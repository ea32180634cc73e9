-- Equal types are the same.
use Rattle.std.proofs.Common.{sym, ◌∙◌}
use Rattle.cel_value.specs.private.EqualityLaws.{type_eq_decides}
use Rattle.machine_code.proofs.pools.CelTypePart.is_same.Goals as goal

pub returns : goal.returns
returns c test = (type_eq_decides _ _).0 (sym c.eq.ensures ∙ test)
