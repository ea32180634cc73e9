use Rattle.std.proofs.Common.{arith, ◌≡◌, ◌<◌, ◌⊎◌, inl, inr, [], length, refl, subst, to_z, of_z, to_z-of_z, w64}
use Rattle.cel_value.specs.Types.{bool_type}
use Rattle.cel_types.specs.Elaborated.{TypedTree, kind}
use Rattle.cel_types.specs.View.{typed_view}
use Rattle.cel_compile.specs.Codes.{code_of}
use Rattle.cel_compile.specs.Slots.{HasFewLocals}
use Rattle.cel_compile.proofs.Forwards.{elaborated_code_is_forward}
use Rattle.cel_compile.proofs.Short.{fitting_code}
use Rattle.cel_read.proofs.GoodConstantLaws.{expr_good}
use Rattle.proto_wire.specs.declared.refusal.Refusal.TheVariants.{TooLarge}
use Rattle.proto_wire.specs.Places.{FaultOr, path_of}
use Rattle.proto_wire.proofs.PlaceExits.{exit_new_or, exit_with}
use Rattle.cel_tree.specs.Places.{NamesNode}
use Rattle.cel_check.specs.Places.{id_of}
use Rattle.machine_code.specs.Typable.{Forward}
use Rattle.cost_bound.specs.Budgets.{IsTooSmallFor, needs_of}
use Rattle.rbac_policy.specs.Budget.{OverIn}
use Rattle.rbac_policy.specs.Costs.{Costs}
use Rattle.rbac_policy.specs.private.Conditions.{ExpressionFault, not_bool, too_much}
use Rattle.rbac_policy.specs.Places.{NodeOr, not_bool_at}
use Rattle.rbac_policy.proofs.Places.{exit_no_memory, exit_over}
use Rattle.rbac_policy.proofs.condition.enforced.Goals as goal

pub returns-in_err-require_bool-clause-fault : goal.returns-in_err-require_bool-clause-fault
returns-in_err-require_bool-clause-fault c x elaborated =
    let bad = rw c.cel_type.ensures at c.in_err-require_bool.ensures.fault in
    exit_with (FaultOr (ExpressionFault x c.args.limits.now c.args.left)) c.from_residual.result
    c.in_err-require_bool.field-0.0 c.from_residual.ensures.1
    (inr (not_bool (kind (typed_view c.args.typed.now)) elaborated.typed bad.0 bad.1))

pub returns-in_err-require_bool-clause-place : goal.returns-in_err-require_bool-clause-place
returns-in_err-require_bool-clause-place c x elaborated root =
    let bad = rw c.cel_type.ensures at c.in_err-require_bool.ensures.fault in
    let same : to_z w64 (of_z w64 c.args.root) ≡ c.args.root = to_z-of_z c.ranges.root in
    let names : NamesNode (id_of x.tree) (path_of c.in_err-require_bool.field-0.0.place) = rw (root) (rw same at bad.2) in
    exit_with (NodeOr (OverIn c.args.limits.now c.args.left x) x) c.from_residual.result c.in_err-require_bool.field-0.0 c.from_residual.ensures.1
    (inr (not_bool_at (kind (typed_view c.args.typed.now)) elaborated.typed bad.0 bad.1 names))

pub returns-in_err-needs-clause-fault : goal.returns-in_err-needs-clause-fault
returns-in_err-needs-clause-fault c x elaborated =
    let e : TypedTree = typed_view c.args.typed.now in
    let is_bool : kind e ≡ bool_type = rw c.cel_type.ensures at c.in_ok-require_bool.ensures.found in
    let costs : Costs c.args.limits.now x (needs_of e c.args.limits.now) =
    record { e = e; elaborated = elaborated; has_type = is_bool; is = refl } in
    exit_new_or (IsTooSmallFor c.args.left (needs_of e c.args.limits.now)) (ExpressionFault x c.args.limits.now c.args.left)
    c.from_residual-in_err-needs.result _ c.from_residual-in_err-needs.ensures.1 c.in_err-needs.ensures.fault
    (λ d small. too_much _ costs small)

pub returns-in_err-needs-clause-place : goal.returns-in_err-needs-clause-place
returns-in_err-needs-clause-place c x elaborated root =
    let e : TypedTree = typed_view c.args.typed.now in
    let is_bool : kind e ≡ bool_type = rw c.cel_type.ensures at c.in_ok-require_bool.ensures.found in
    let costs : Costs c.args.limits.now x (needs_of e c.args.limits.now) =
    record { e = e; elaborated = elaborated; has_type = is_bool; is = refl } in
    elim c.in_err-needs.ensures.fault [
      | inl memory ↦ exit_no_memory (OverIn c.args.limits.now c.args.left x) x c.from_residual-in_err-needs.result _ c.from_residual-in_err-needs.ensures.1 memory
      | inr small ↦ exit_over c.args.limits.now c.args.left (needs_of e c.args.limits.now) x c.from_residual-in_err-needs.result _
          c.from_residual-in_err-needs.ensures.1 costs small
    ]

-- a code has room for the expression
pub returns-in_err-code-clause-fault : goal.returns-in_err-code-clause-fault
returns-in_err-code-clause-fault c x elaborated =
    let e : TypedTree = typed_view c.args.typed.now in
    let room = fitting_code c.requires.0 c.requires.1 e c.requires.2 c.requires.3 in
    let short = room.0 in
    exit_new_or (λ d. (d ≡ TooLarge) × ((65535 < length (code_of 0 0 e)) ⊎ (HasFewLocals 0 e → ⊥))) (ExpressionFault x c.args.limits.now c.args.left)
    c.from_residual-in_err-code.result _ c.from_residual-in_err-code.ensures.1 c.in_err-code.ensures.fault
    (λ d bad. elim bad.1 [
      | inl long ↦ absurd (omega (arith, short, long))
      | inr many ↦ absurd (many room.1)
    ])

pub returns-in_err-code-clause-place : goal.returns-in_err-code-clause-place
returns-in_err-code-clause-place c x elaborated root =
    let e : TypedTree = typed_view c.args.typed.now in
    let room = fitting_code c.requires.0 c.requires.1 e c.requires.2 c.requires.3 in
    let short = room.0 in
    exit_no_memory (OverIn c.args.limits.now c.args.left x) x c.from_residual-in_err-code.result _ c.from_residual-in_err-code.ensures.1
    (elim c.in_err-code.ensures.fault [
      | inl memory ↦ memory
      | inr bad ↦ elim bad.1 [
        | inl long ↦ absurd (omega (arith, short, long))
        | inr many ↦ absurd (many room.1)
      ]
    ])

pub returns-in_err-code-2-clause-fault : goal.returns-in_err-code-2-clause-fault
returns-in_err-code-2-clause-fault c x elaborated =
    exit_new_or (λ _. ⊥) (ExpressionFault x c.args.limits.now c.args.left) c.from_residual-in_err-code-2.result _
    c.from_residual-in_err-code-2.ensures.1 (inl c.in_err-code-2.ensures.fault) (λ d bad. absurd bad)

pub returns-in_err-code-2-clause-place : goal.returns-in_err-code-2-clause-place
returns-in_err-code-2-clause-place c x elaborated root =
    exit_no_memory (OverIn c.args.limits.now c.args.left x) x c.from_residual-in_err-code-2.result _ c.from_residual-in_err-code-2.ensures.1
    c.in_err-code-2.ensures.fault

pub verified-requires : goal.verified-requires
verified-requires c =
    let e : TypedTree = typed_view c.args.typed.now in
    let is_bool : kind e ≡ bool_type = rw c.cel_type.ensures at c.in_ok-require_bool.ensures.found in
    let good = expr_good c.requires.0 c.requires.1 c.requires.2 in
    rw c.in_ok-code.ensures.found (subst (Forward (code_of 0 0 e)) is_bool (elaborated_code_is_forward c.requires.1 e good c.requires.3))
