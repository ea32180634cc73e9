use Rattle.std.proofs.Common.{◌≡◌, ◌++◌, List, length, take}
use Rattle.proto_wire.specs.Maps.{text}
use Rattle.proto_wire.specs.private.Maps.{Held}
use Rattle.cost_bound.specs.Budgets.{sum_of}
use Rattle.rbac_match.specs.Tokens.{Token}
use Rattle.rbac_policy.specs.Enforced.{policies_need}
use Rattle.rbac_policy.specs.Named.{named_views}
use Rattle.rbac_policy.specs.private.Conditions.{IsEnforced}
use Rattle.rbac_policy.specs.private.Named.{names_view}
use Rattle.rbac_policy.proofs.policy.read_policies.Given as goal

abbrev pub invariant-loop-entry : goal.invariant-loop-entry
invariant-loop-entry l = ((more : List Token) → Held text (IsEnforced l.limits) (names_view (take l.entry-index l.named)) (named_views (l.list ++ more) l.policies.items))
    × ((list : List Token) → sum_of (policies_need (named_views list l.policies.items)) l.left ≡ l.budget)
    × (length l.policies.items ≡ l.entry-index)
