-- A filter: Envoy RBAC, "RBAC" and "Policy" (config.rbac.v3).
use Rattle.std.specs.Prelude.{Option}
use Rattle.std.specs.FinMap.{FinMap}
use Rattle.attributes.specs.Headers.{name_cmp}
use Rattle.rbac_match.specs.Formula.{Formulas}
use Rattle.rbac_policy.specs.declared.filter.Action.{Action}

-- what a policy requires of a request: some permission, some principal, and its condition if it has one. In a
-- filter as it is written, a condition is a checked expression. In one that is enforced, it is a program
pub record Policy (C : Type 0) : Type 0 where
  pub permissions : Formulas
  pub principals : Formulas
  pub condition : Option C

-- an action, and policies by their names
pub record Filter (C : Type 0) : Type 0 where
  pub action : Action
  pub policies : FinMap name_cmp (Policy C)
