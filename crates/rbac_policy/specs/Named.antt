-- What the code's policies mean.
use Rattle.std.specs.Prelude.{ℕ, List, map, option_map}
use Rattle.std.specs.String.{string_bytes}
use Rattle.rbac_match.specs.Tokens.{Token}
use Rattle.rbac_match.specs.View.{rules_view}
use Rattle.machine_code.specs.Instructions.{code_view}
use Rattle.rbac_policy.specs.Condition.{Program}
use Rattle.rbac_policy.specs.Filter.{Policy}
use Rattle.rbac_policy.specs.declared.condition.Condition.{Condition}
use Rattle.rbac_policy.specs.declared.policy.NamedPolicy.{NamedPolicy}

-- the program of a condition
abbrev pub program_view : Condition → Program
program_view c = record { code = code_view c.code; bound = c.needs.steps; visits = c.needs.visits }

-- what a policy requires; its rules are in the list
abbrev pub policy_view : List Token → NamedPolicy → Policy Program
policy_view list p = record {
  permissions = rules_view list p.permissions;
  principals = rules_view list p.principals;
  condition = option_map program_view p.condition;
}

-- the name of a policy, and what the policy requires
abbrev pub named_view : List Token → NamedPolicy → List ℕ × Policy Program
named_view list p = (string_bytes p.name, policy_view list p)

-- the names of policies and what the policies require, in order
abbrev pub named_views : List Token → List NamedPolicy → List (List ℕ × Policy Program)
named_views list ps = map (named_view list) ps
