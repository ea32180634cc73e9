use Rattle.proto_wire.specs.Merge.{parts_view}
use Rattle.std.proofs.Common.{◌⊎◌, ◌≡◌, ◌++◌, ◌∷◌, [], ℕ, List, option_map}
use Rattle.std.specs.String.{string_bytes}
use Rattle.proto_wire.specs.declared.refusal.Refusal.{Refusal}
use Rattle.proto_wire.proofs.PlaceExits.{placed_fault, placed_found}
use Rattle.rbac_match.specs.Tokens.{GoesOn, Token}
use Rattle.cost_bound.specs.Budgets.{Covers}
use Rattle.rbac_policy.specs.Enforced.{program_needs}
use Rattle.rbac_policy.specs.Fault.{PolicyFault}
use Rattle.rbac_policy.specs.Keys.{rules_field}
use Rattle.rbac_policy.specs.Named.{policy_view, program_view}
use Rattle.rbac_policy.specs.private.Conditions.{ConditionsFault, IsEnforced}
use Rattle.rbac_policy.proofs.Places.{entry_out}
use Rattle.rbac_policy.proofs.policy.read_entry.Goals as goal

pub returns-clause-kept : goal.returns-clause-kept
returns-clause-kept c =
    placed_found (λ _. GoesOn c.args.list.now c.read_policy.new.list) rules_field.policies c.args.number
    c.read_policy.result c.inside_field.result c.inside_field.ensures c.read_policy.ensures.kept

pub returns-clause-place : goal.returns-clause-place
returns-clause-place c =
    entry_out c.args.limits.now c.args.left c.args.number (c.args.entry.now.0.now, parts_view c.args.entry.now.1.items)
    c.read_policy.result c.inside_field.result c.inside_field.ensures
    (rw c.deref.ensures at c.read_policy.ensures.place)

pub returns-clause-named : goal.returns-clause-named
returns-clause-named c =
    placed_found (λ policy. string_bytes policy.name ≡ c.args.entry.now.0.now) rules_field.policies c.args.number
    c.read_policy.result c.inside_field.result c.inside_field.ensures c.read_policy.ensures.named

pub returns-clause-found : goal.returns-clause-found
returns-clause-found c =
    placed_found (λ policy. (more : List Token) → IsEnforced c.args.limits.now (parts_view c.args.entry.now.1.items)
    (policy_view (c.read_policy.new.list ++ more) policy)) rules_field.policies c.args.number
    c.read_policy.result c.inside_field.result c.inside_field.ensures (rw c.deref.ensures at c.read_policy.ensures.found)

pub returns-clause-covered : goal.returns-clause-covered
returns-clause-covered c =
    placed_found (λ policy. Covers c.args.left (program_needs (option_map program_view policy.condition))) rules_field.policies c.args.number
    c.read_policy.result c.inside_field.result c.inside_field.ensures c.read_policy.ensures.covered

pub returns-clause-fault : goal.returns-clause-fault
returns-clause-fault c =
    let parts : List (List ℕ) = parts_view c.args.entry.now.1.items in
    let F : Refusal → Type 0 = λ e. PolicyFault parts e ⊎ ConditionsFault ((c.args.entry.now.0.now, parts) ∷ []) c.args.limits.now c.args.left e in
    placed_fault F F rules_field.policies c.args.number c.read_policy.result c.inside_field.result c.inside_field.ensures
    (rw c.deref.ensures at c.read_policy.ensures.fault) (λ d bad. bad)
