use Rattle.std.proofs.Common.{◌≡◌, ◌≢◌, ◌-◌, ℕ, List, [], None, map, take, refl, sym, ap, inr, ◌∙◌}
use Rattle.std.proofs.lemmas.Result.{MatchResult-weaker, on_ok_weaker}
use Rattle.proto_wire.specs.Reading.{in_fields, lacking}
use Rattle.proto_wire.specs.Fields.{Wire, field_view}
use Rattle.proto_wire.specs.Merge.{parts_view}
use Rattle.proto_wire.specs.Messages.{IsMessage, MessageFault}
use Rattle.proto_wire.specs.Oneof.{last_number, member_in, member_run, trailing_run}
use Rattle.proto_wire.specs.Values.{len_in, payloads}
use Rattle.proto_wire.specs.declared.field.Field.{Field}
use Rattle.proto_wire.proofs.ValueLemmas.{picked_none, picked_some}
use Rattle.rbac_match.specs.Formula.{any, and_of, or_of, not_of}
use Rattle.rbac_match.specs.declared.list.Joint.TheVariants.{Not}
use Rattle.rbac_match.specs.Message.{members, rule_keys, set_field, set_keys}
use Rattle.rbac_match.specs.Places.{rule, set, always, part_of, PlacedOr, EachOr}
use Rattle.rbac_match.specs.Rules.{IsRule, SetFault, RuleFault}
use Rattle.proto_wire.proofs.Exits.{memory_or_weaker}
use Rattle.proto_wire.proofs.Messages.{no_steps}
use Rattle.rbac_match.proofs.Exits.{exit_with, placed_found}
use Rattle.rbac_match.proofs.Places.{exit_here, exit_own, leaf_placed, step_out, each_out, set_out, to_member, last_steps, last_refusal, is_at}
use Rattle.rbac_match.proofs.Levels.{rule_found, fault_deeper, last_fault}
use Rattle.rbac_match.proofs.Adding.{adds_none, adds_one, joined}
use Rattle.rbac_match.proofs.Runs.{run_of_members}
use Rattle.rbac_match.proofs.read.+rule.Goals as goal
use Rattle.rbac_match.proofs.read.+rule.Goals.{read_each-in-Some+in_ok-inside_field, read_each-in_default}

pub read_rule_at-returns-in_err-require_level-clause-fault : goal.read_rule_at-returns-in_err-require_level-clause-fault
read_rule_at-returns-in_err-require_level-clause-fault t c =
    let parts : List (List ℕ) = parts_view c.args.parts.now in
    let bad = c.in_err-require_level.ensures.fault in
    exit_own c.args.side (rule c.args.depth parts) c.from_residual.result _ c.from_residual.ensures.1 (rw bad.0 bad.1)

pub read_rule_at-returns-in_err-fields-clause-fault : goal.read_rule_at-returns-in_err-fields-clause-fault
read_rule_at-returns-in_err-fields-clause-fault t c =
    let parts : List (List ℕ) = parts_view c.args.parts.now in
    exit_here c.args.side (rule c.args.depth parts) c.from_residual-in_err-fields.result _ c.from_residual-in_err-fields.ensures.1
    (no_steps _ _ c.in_err-fields.field-0.0 c.in_err-fields.ensures.place)
    (memory_or_weaker (MessageFault (rule_keys c.args.side) parts) (RuleFault c.args.side c.args.depth parts) _
    (λ e bad. fault_deeper c.args.side c.args.depth parts e c.in_ok-require_level.ensures.found (in_fields bad))
    (rw c.rule_keys.ensures at c.in_err-fields.ensures.fault))

pub read_rule_at-returns-in_err-last-clause-fault : goal.read_rule_at-returns-in_err-last-clause-fault
read_rule_at-returns-in_err-last-clause-fault t c =
    let parts : List (List ℕ) = parts_view c.args.parts.now in
    let fs : List Wire = map field_view c.in_ok-fields.fields.items in
    let message : IsMessage (rule_keys c.args.side) parts fs = rw c.rule_keys.ensures at c.in_ok-fields.ensures.found in
    let bad = rw c.deref.ensures at c.in_err-last.ensures.fault in
    let last = last_number (rule_keys c.args.side) fs in
    let f = c.in_err-last.field-0.0 in
    exit_here c.args.side (rule c.args.depth parts) c.from_residual-in_err-last.result _ c.from_residual-in_err-last.ensures.1
    (last_steps last (λ n. member_in (members c.args.side) n ≡ None) f bad)
    (inr (last_fault c.args.side c.args.depth parts fs message c.in_ok-require_level.ensures.found f.refusal
    (last_refusal last (λ n. member_in (members c.args.side) n ≡ None) f bad)))

pub read_rule_at-returns-clause-fault : goal.read_rule_at-returns-clause-fault
read_rule_at-returns-clause-fault t c =
    let parts : List (List ℕ) = parts_view c.args.parts.now in
    let fs : List Wire = map field_view c.in_ok-fields.fields.items in
    let message : IsMessage (rule_keys c.args.side) parts fs = rw c.rule_keys.ensures at c.in_ok-fields.ensures.found in
    let last = rw c.deref.ensures at c.in_ok-last.ensures.found in
    let run : map field_view c.trailing_run-run.result.now ≡ member_run (rule_keys c.args.side) fs =
    c.trailing_run-run.ensures ∙ ap (λ (fields : List Field). trailing_run (map field_view fields)) c.deref-2.ensures ∙ sym (run_of_members (rule_keys c.args.side) fs message.1) in
    step_out c.args.side (rule c.args.depth parts)
    (part_of (c.args.depth - 1) c.in_ok-last.last.member c.in_ok-last.last.number (member_run (rule_keys c.args.side) fs))
    c.in_ok-last.last.number 0 c.read_member.result c.inside_field.result
    c.inside_field.ensures (rw run at c.read_member.ensures.fault)
    (to_member c.args.side c.args.depth parts fs c.in_ok-last.last.number c.in_ok-last.last.member
    c.in_ok-require_level.ensures.found message.0 last.0 last.1)

pub read_set-returns-in_err-fields-clause-fault : goal.read_set-returns-in_err-fields-clause-fault
read_set-returns-in_err-fields-clause-fault t c =
    let parts : List (List ℕ) = parts_view c.args.parts.now in
    exit_here c.args.side (set c.args.depth parts) c.from_residual.result _ c.from_residual.ensures.1
    (no_steps _ _ c.in_err-fields.field-0.0 c.in_err-fields.ensures.place)
    (memory_or_weaker (MessageFault set_keys parts) (SetFault (RuleFault c.args.side c.args.depth) parts) _
    (λ e bad. in_fields bad) c.in_err-fields.ensures.fault)

pub read_set-returns-in_err-require_payload-clause-fault : goal.read_set-returns-in_err-require_payload-clause-fault
read_set-returns-in_err-require_payload-clause-fault t c =
    let parts : List (List ℕ) = parts_view c.args.parts.now in
    let fs : List Wire = map field_view c.in_ok-fields.fields.items in
    let message : IsMessage set_keys parts fs = c.in_ok-fields.ensures.found in
    let fault = rw c.deref.ensures at c.in_err-require_payload.ensures.fault in
    exit_own c.args.side (set c.args.depth parts) c.from_residual-in_err-require_payload.result _
    c.from_residual-in_err-require_payload.ensures.1 (lacking fs message fault.0 fault.1)

pub read_set-returns-clause-fault : goal.read_set-returns-clause-fault
read_set-returns-clause-fault t c =
    let parts : List (List ℕ) = parts_view c.args.parts.now in
    let fs : List Wire = map field_view c.in_ok-fields.fields.items in
    let message : IsMessage set_keys parts fs = c.in_ok-fields.ensures.found in
    MatchResult-weaker c.read_each.result (rw c.deref-2.ensures at c.read_each.ensures.fault) (λ x h. h)
    (λ f bad. set_out c.args.side c.args.depth parts fs f message.0 bad)

pub read_each-returns-in_err-inside_field-clause-fault : goal.read_each-returns-in_err-inside_field-clause-fault
read_each-returns-in_err-inside_field-clause-fault t c =
    let bytes : List ℕ = c.in-Some.payload.now in
    let fs : List Wire = map field_view c.args.fields.now in
    exit_with (EachOr c.args.side c.args.depth c.args.number fs) c.from_residual.result _ c.from_residual.ensures.1
    (each_out c.args.side c.args.depth c.args.number fs c.loop-index.index bytes c.read_rule_at.result _ c.in_err-inside_field.ensures
    c.read_rule_at.ensures.fault
    (is_at c.args.number c.args.fields.now c.loop-index.index _ bytes c.loop-index-test.true c.in-Some.ensures))

pub read_rule_at-returns-clause-found : goal.read_rule_at-returns-clause-found
read_rule_at-returns-clause-found t c =
    let parts : List (List ℕ) = parts_view c.args.parts.now in
    let fs : List Wire = map field_view c.in_ok-fields.fields.items in
    let message : IsMessage (rule_keys c.args.side) parts fs = rw c.rule_keys.ensures at c.in_ok-fields.ensures.found in
    let last = rw c.deref.ensures at c.in_ok-last.ensures.found in
    let run : map field_view c.trailing_run-run.result.now ≡ member_run (rule_keys c.args.side) fs =
    c.trailing_run-run.ensures ∙ ap (λ (fields : List Field). trailing_run (map field_view fields)) c.deref-2.ensures ∙ sym (run_of_members (rule_keys c.args.side) fs message.1) in
    placed_found _ c.in_ok-last.last.number 0 c.read_member.result c.inside_field.result c.inside_field.ensures
    (on_ok_weaker c.read_member.result
    (λ says. (
      says.0,
      rule_found c.args.side c.args.depth parts fs message c.in_ok-require_level.ensures.found
          c.in_ok-last.last.number c.in_ok-last.last.member last.0 last.1 says.0 (rw run at says.1),
      says.2,
    ))
    c.read_member.ensures.found)

pub read_rule_at-last_member-requires : goal.read_rule_at-last_member-requires
read_rule_at-last_member-requires t c = rw c.deref.ensures (rw c.rule_keys.ensures at c.in_ok-fields.ensures.found.1)

pub read_set-returns-clause-found : goal.read_set-returns-clause-found
read_set-returns-clause-found t c =
    let parts : List (List ℕ) = parts_view c.args.parts.now in
    let fs : List Wire = map field_view c.in_ok-fields.fields.items in
    let message : IsMessage set_keys parts fs = c.in_ok-fields.ensures.found in
    let some : payloads set_field.rules fs ≢ [] = rw c.deref.ensures at c.in_ok-require_payload.ensures.found in
    on_ok_weaker c.read_each.result
    (λ h. (h.0, (fs, message, (some, rw c.deref-2.ensures at h.1)), h.2)) c.read_each.ensures.found

pub read_each-loop-index-init : goal.read_each-loop-index-init
read_each-loop-index-init t c = adds_none (IsRule c.args.side c.args.depth) c.args.list.now

pub read_each-loop-index-preserved : goal.read_each-loop-index-preserved
read_each-loop-index-preserved t c =
    let fields = c.args.fields.now in
    let i = c.loop-index.index in
    let within = c.loop-index-test.true in
    let before : List (List ℕ) = payloads c.args.number (map field_view (take i fields)) in
    elim c.match-len_of.branch [
      | read_each-in-Some+in_ok-inside_field w ↦
          let bytes : List ℕ = w.in-Some.payload.now in
          let more = picked_some len_in c.args.number fields i _ bytes within w.in-Some.ensures in
          rw (more, w.list-is)
          (adds_one (IsRule c.args.side c.args.depth) before bytes c.args.list.now c.loop-index.list _
          c.loop-index.invariant (placed_found _ c.args.number c.loop-index.index w.read_rule_at.result _ w.in_ok-inside_field.ensures w.read_rule_at.ensures.found))
      | read_each-in_default w ↦
          let same = picked_none len_in c.args.number fields i _ within w.in_default.ensures in
          rw (same, w.list-is) c.loop-index.invariant
    ]

pub read_joined-returns-in_err-read_set-clause-fault : goal.read_joined-returns-in_err-read_set-clause-fault
read_joined-returns-in_err-read_set-clause-fault t c =
    exit_with (PlacedOr c.args.side (set c.args.depth (parts_view c.args.parts.now))) c.from_residual-in_err-read_set.result _
    c.from_residual-in_err-read_set.ensures.1 c.in_err-read_set.ensures.fault

pub read_joined-returns-clause-found : goal.read_joined-returns-clause-found
read_joined-returns-clause-found t c =
    let added = c.in_ok-read_set.ensures.found in (
      added.0,
      added.1,
      c.in_ok-join.ensures ∙ joined c.args.list.now _ _ _ c.len-place.result c.len-place.ensures c.in_ok-add_any.ensures added.2 c.args.joint,
    )

pub read_negated-returns-in_err-read_rule_at-clause-fault : goal.read_negated-returns-in_err-read_rule_at-clause-fault
read_negated-returns-in_err-read_rule_at-clause-fault t c =
    exit_with (PlacedOr c.args.side (rule c.args.depth (parts_view c.args.parts.now))) c.from_residual-in_err-read_rule_at.result _
    c.from_residual-in_err-read_rule_at.ensures.1 c.in_err-read_rule_at.ensures.fault

pub read_negated-returns-clause-found : goal.read_negated-returns-clause-found
read_negated-returns-clause-found t c =
    let added = c.in_ok-read_rule_at.ensures.found in (
      not_of added.0,
      (added.0, added.1, refl),
      c.in_ok-join.ensures ∙ joined c.args.list.now _ _ _ c.len-place.result c.len-place.ensures c.in_ok-add_any.ensures added.2 Not,
    )

pub read_member-returns-in_err-require_true-in-Any-clause-fault : goal.read_member-returns-in_err-require_true-in-Any-clause-fault
read_member-returns-in_err-require_true-in-Any-clause-fault t c =
    rw c.in-Any.is (exit_own c.args.side (always c.args.last.number (map field_view c.args.run.now))
    c.from_residual-in_err-require_true-in-Any.result _ c.from_residual-in_err-require_true-in-Any.ensures.1
    c.in_err-require_true-in-Any.ensures.fault)

pub read_member-returns-in_ok-add_any-in-Any-clause-found : goal.read_member-returns-in_ok-add_any-in-Any-clause-found
read_member-returns-in_ok-add_any-in-Any-clause-found t c =
    rw c.in-Any.is (any, (c.in_ok-require_true-in-Any.ensures.found, refl), c.in_ok-add_any-in-Any.ensures)

pub read_member-returns-in_ok-set-in-And-clause-found : goal.read_member-returns-in_ok-set-in-And-clause-found
read_member-returns-in_ok-set-in-And-clause-found t c =
    rw c.in-And.is (on_ok_weaker c.read_joined.result
    (λ added. (and_of added.0, (added.0, rw (c.deref.ensures, c.in_ok-set-in-And.ensures) at added.1, refl), added.2))
    c.read_joined.ensures.found)

pub read_member-returns-in_ok-set-in-And-clause-fault : goal.read_member-returns-in_ok-set-in-And-clause-fault
read_member-returns-in_ok-set-in-And-clause-fault t c =
    rw c.in-And.is (rw (c.deref.ensures, c.in_ok-set-in-And.ensures) at c.read_joined.ensures.fault)

pub read_member-returns-in_ok-set-in-Or-clause-found : goal.read_member-returns-in_ok-set-in-Or-clause-found
read_member-returns-in_ok-set-in-Or-clause-found t c =
    rw c.in-Or.is (on_ok_weaker c.read_joined-in-Or.result
    (λ added. (or_of added.0, (added.0, rw (c.deref-in-Or.ensures, c.in_ok-set-in-Or.ensures) at added.1, refl), added.2))
    c.read_joined-in-Or.ensures.found)

pub read_member-returns-in_ok-set-in-Or-clause-fault : goal.read_member-returns-in_ok-set-in-Or-clause-fault
read_member-returns-in_ok-set-in-Or-clause-fault t c =
    rw c.in-Or.is (rw (c.deref-in-Or.ensures, c.in_ok-set-in-Or.ensures) at c.read_joined-in-Or.ensures.fault)

pub read_member-returns-in_ok-parts-in-Not-clause-found : goal.read_member-returns-in_ok-parts-in-Not-clause-found
read_member-returns-in_ok-parts-in-Not-clause-found t c =
    rw c.in-Not.is (on_ok_weaker c.read_negated.result
    (λ added. (added.0, (added.1.0, rw (c.deref-in-Not.ensures, c.in_ok-parts-in-Not.ensures) at added.1.1, added.1.2), added.2))
    c.read_negated.ensures.found)

pub read_member-returns-in_ok-parts-in-Not-clause-fault : goal.read_member-returns-in_ok-parts-in-Not-clause-fault
read_member-returns-in_ok-parts-in-Not-clause-fault t c =
    rw c.in-Not.is (rw (c.deref-in-Not.ensures, c.in_ok-parts-in-Not.ensures) at c.read_negated.ensures.fault)

pub read_member-returns-in-Leaf-clause-found : goal.read_member-returns-in-Leaf-clause-found
read_member-returns-in-Leaf-clause-found t c = rw c.in-Leaf.is c.read_test.ensures.found

pub read_member-returns-in-Leaf-clause-fault : goal.read_member-returns-in-Leaf-clause-fault
read_member-returns-in-Leaf-clause-fault t c =
    rw c.in-Leaf.is (leaf_placed c.args.side _ c.args.last.number (map field_view c.args.run.now) c.read_test.result c.read_test.ensures.fault)
