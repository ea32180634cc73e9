-- The effect of an action, as a test.
use Rattle.std.specs.Prelude.{Bool, true, not}
use Rattle.rbac_policy.specs.declared.filter.Action.{Action}
use Rattle.rbac_policy.specs.declared.filter.Action.TheVariants.{Allow, Deny, Log}

-- whether the action lets a request through, if `is_match` says whether some policy matches
abbrev pub allows : Action → Bool → Bool
allows Allow is_match = is_match
allows Deny is_match = not is_match
allows Log is_match = true
