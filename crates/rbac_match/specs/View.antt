-- The formulas of a part of a list.
use Rattle.std.specs.Prelude.{List}
use Rattle.rbac_match.specs.Formula.{Formulas}
use Rattle.rbac_match.specs.Tokens.{Token, decode, slice_at}
use Rattle.rbac_match.specs.declared.list.Rules.{Rules}

-- the rules of a part of the list: its first place, and the number of its tokens
abbrev pub rules_view : List Token → Rules → Formulas
rules_view list rules = decode (slice_at rules.from rules.count list)
