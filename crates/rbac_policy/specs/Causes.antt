-- The leaves that decide whether the sides of a policy match a request. Sides are Envoy RBAC, "Policy"
-- (config.rbac.v3); which leaves an explanation names is this project's own choice.
use Rattle.std.specs.Prelude.{ℕ, if◌then◌else◌, List, Some, None, take}
use Rattle.attributes.specs.Request.{RequestValue}
use Rattle.rbac_match.specs.Causes.{CauseValue, causes}
use Rattle.rbac_match.specs.Formula.{Formulas, or_of, some_hold}
use Rattle.rbac_policy.specs.Filter.{Policy}
use Rattle.rbac_policy.specs.declared.causes.PolicyCauses.{PolicyCauses}

-- the first `limit` leaves that decide whether some rule of a side matches
abbrev pub side_causes : ℕ → RequestValue → Formulas → List CauseValue
side_causes limit r fs = take limit (causes r (or_of fs))

-- the causes of a policy's sides. If no permission matches, those of the permissions; else, if no principal
-- matches, those of the principals; else both
abbrev pub policy_causes : {C : Type 0} → ℕ → RequestValue → Policy C → PolicyCauses
policy_causes limit r p =
    let permissions = Some (side_causes limit r p.permissions) in
    let principals = Some (side_causes limit r p.principals) in
    if some_hold r p.permissions
    then (if some_hold r p.principals
    then record { permissions = permissions; principals = principals }
    else record { permissions = None; principals = principals })
    else record { permissions = permissions; principals = None }
