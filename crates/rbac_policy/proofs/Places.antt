-- The fault of a part is one of the filter that has the part, and what a `?` passes on of its place.
use Rattle.std.proofs.Common.{◌≡◌, ◌≢◌, ◌<◌, ◌⊎◌, arith, ℕ, zero, suc, List, [], ◌∷◌, ◌++◌, append_assoc, Some, None, take, map, Result, Ok, Err, IfErr, inl, inr, refl, sym, ap, subst, length, get_or, ◌∙◌}
use Rattle.std.specs.FinMap.{entries, entries_sorted, find}
use Rattle.std.specs.Prelude.{IfOk, IsErrAnd, MatchResult, slice_get}
use Rattle.std.specs.Cmp.Lexicographic.{nat_list_cmp_total}
use Rattle.std.proofs.lemmas.List.{map-id}
use Rattle.std.proofs.lemmas.Option.{get_or_from_slice_get, slice_get_cases}
use Rattle.std.proofs.lemmas.Result.{err_from_is_err_and}
use Rattle.attributes.specs.Headers.{name_cmp}
use Rattle.attributes.specs.Limits.{LimitsValue}
use Rattle.cel_tree.specs.Checked.{CelChecked}
use Rattle.cel_tree.specs.Message.{ArePresent, ExprParts, IsExprOf}
use Rattle.cel_tree.specs.Places.{PlacedOr as Placed_or}
use Rattle.cel_read.specs.Places.{ExprFaultAt}
use Rattle.cel_read.proofs.CheckedLaws.{expr_given}
use Rattle.cel_read.proofs.PlaceLaws.{expr_fails}
use Rattle.cel_check.specs.Places.{CheckFaultAt}
use Rattle.cel_check.proofs.PlaceLaws.{check_fails}
use Rattle.proto_wire.specs.Fields.{Wire}
use Rattle.proto_wire.specs.Maps.{Entry, text, Readable, map_of, in_value}
use Rattle.proto_wire.specs.Merge.{Merges}
use Rattle.proto_wire.specs.Messages.{MessageFault}
use Rattle.proto_wire.specs.Places.{Path, End, IsAt as IsOf, IsInside, FaultOr, MessagePlace, path_of}
use Rattle.proto_wire.specs.Refusal.{MemoryOr}
use Rattle.proto_wire.specs.Values.{payloads}
use Rattle.proto_wire.specs.declared.key.Key.{Key}
use Rattle.proto_wire.specs.declared.place.Step.{Step}
use Rattle.proto_wire.specs.declared.placed.Fault.{Fault}
use Rattle.proto_wire.specs.declared.refusal.Refusal.{Refusal}
use Rattle.proto_wire.specs.declared.refusal.Refusal.TheVariants.{Memory}
use Rattle.proto_wire.proofs.MapOrder.{find_at}
use Rattle.proto_wire.proofs.Messages.{no_steps}
use Rattle.proto_wire.proofs.Exits.{memory_or_weaker}
use Rattle.proto_wire.proofs.PlaceExits.{Placed}
use Rattle.proto_wire.proofs.Places.{has_fault as fault_of_whole, shorter as fault_of_outer, further_out}
use Rattle.rbac_match.specs.Places as rules_of
use Rattle.rbac_match.specs.Places.{IsAt, rule, EachOr}
use Rattle.rbac_match.specs.declared.rule.Side.{Side}
use Rattle.rbac_match.specs.declared.rule.Side.TheVariants.{Permission, Principal}
use Rattle.rbac_match.proofs.Places as rule_places
use Rattle.rbac_match.proofs.Places.{at_in}
use Rattle.cost_bound.specs.Budgets.{IsTooSmallFor, sum_of}
use Rattle.cost_bound.specs.declared.budget.Budget.{Budget}
use Rattle.rbac_policy.specs.Budget.{EntriesCost, OverAt, OverIn, OverInCondition, OverInEntry, OverInFields, OverInPolicies, OverInPolicy, OverInRules}
use Rattle.rbac_policy.specs.Costs.{Costs}
use Rattle.rbac_policy.specs.Fault.{PolicyFault, RulesFault, in_permission, in_principal, in_policies, in_rules, rules_fields, unreadable, untyped, not_bool}
use Rattle.rbac_policy.specs.Keys.{filter_field, rules_field}
use Rattle.rbac_policy.specs.Message.{condition_in, rule_depth}
use Rattle.rbac_policy.specs.Places.{Part, of_filter, of_rules, of_policy, of_condition, in_condition, in_rule, ConditionWrong, ConditionWrongAt, unreadable_at, wrong_at, untyped_at, not_bool_at, IsOfExpr, does_not_read, has_no_type, of_another_type, PartFault, side_field, condition_field, StepTo, FaultAt, OfNoPart, PlacedOr, NodeOr, ConditionPartOr, ConditionOr, EntryOr, IsOfEntry, PoliciesOr, FieldsOr}
use Rattle.rbac_policy.proofs.Besides.{name_same}

-- ---- outer parts

-- the fault of a rule is one of its policy
from_rule : (parts : List (List ℕ)) (fs : List Wire) (side : Side) (child : List ℕ) (i : ℕ) (e : Refusal)
    → Merges parts fs → IsAt fs (side_field side) i child
    → rules_of.PartFault side (rule rule_depth (child ∷ [])) e → PolicyFault parts e
from_rule parts fs Permission child i e merges at bad =
    in_permission fs merges (child, at_in (side_field Permission) fs i child at, bad)
from_rule parts fs Principal child i e merges at bad =
    in_principal fs merges (child, at_in (side_field Principal) fs i child at, bad)

-- the fault of a condition is one of its policy
from_condition : (parts : List (List ℕ)) (fs : List Wire) (e : Refusal) → Merges parts fs
    → ArePresent (condition_in fs) → ConditionWrong (condition_in fs) e → PolicyFault parts e
from_condition parts fs e merges there (does_not_read bad) = unreadable fs merges there bad
from_condition parts fs e merges there (has_no_type x reads bad) =
    untyped x (record { fs = fs; merges = merges; reads = reads }) bad
from_condition parts fs e merges there (of_another_type x t reads typed other is) =
    not_bool x t (record { fs = fs; merges = merges; reads = reads }) typed other is

-- a condition with a fault at a path has it
condition_fails : (parts : ExprParts) (path : Path) (e : Refusal) → ConditionWrongAt parts path e → ConditionWrong parts e
condition_fails parts path e (unreadable_at bad) = does_not_read (expr_fails parts path e bad)
condition_fails parts path e (wrong_at x inner reads (untyped_at bad) of_expr) =
    has_no_type x reads (check_fails x inner e bad)
condition_fails parts path e (wrong_at x inner reads (not_bool_at t typed other is names) of_expr) =
    of_another_type x t reads typed other is

-- what stands in a map at a position is found by its name
found_at : (read : List (Entry text)) (i : ℕ) (entry : Entry text)
    → slice_get (entries (map_of text read)) i ≡ Some entry
    → find name_cmp entry.0 (entries (map_of text read)) ≡ Some entry.1
found_at read i entry at =
    let es : List (Entry text) = entries (map_of text read) in
    elim (slice_get_cases es i).1 [
      | inl (x, within, some, is) ↦
          let found = find_at name_cmp nat_list_cmp_total name_same (λ (n : Entry text). n) es i entry
          (rw (map-id es) (entries_sorted (map_of text read))) within in
          rw (map-id es, get_or_from_slice_get es i entry entry at) at found
      | inr (past, none) ↦ let clash : Some entry ≡ None = sym at ∙ none in absurd cc
    ]

-- a fault of the part to which a step leads is one of the part from which it leads
pub climb : (p q : Part) (s : Step) (e : Refusal) → StepTo p s q → PartFault q e → PartFault p e
climb (of_filter bytes) q s e to bad =
    let own : PartFault (of_rules (payloads filter_field.rules to.top)) e = rw (to.is) at bad in
    elim own [
      | inl fields ↦ rules_fields to.top to.merges to.there fields
      | inr (fs, inner, wrong) ↦ in_rules to.top fs to.merges to.there inner wrong
    ]
climb (of_rules parts) q s e to bad =
    let own : PolicyFault (to.entry).1 e = rw (to.is) at bad in
    inr (
      to.fs,
      to.merges,
      in_policies (in_value to.read to.readable
          ((to.entry).0, (to.entry).1, found_at to.read s.position to.entry to.at, own)),
    )
climb (of_policy parts) q s e (fs, merges, inl to) bad =
    from_rule parts fs to.side to.child s.position e merges to.at (rw (to.is) at bad)
climb (of_policy parts) q s e (fs, merges, inr to) bad =
    from_condition parts fs e merges to.there (rw (to.is) at bad)
climb (of_condition parts) q s e to bad =
    let own : PartFault (in_condition parts (s ∷ [])) e = rw to at bad in
    condition_fails parts (record { steps = (s ∷ []) ++ own.0; end = own.1 }) e own.2
climb (in_condition parts steps) q s e to bad =
    let own : PartFault (in_condition parts (steps ++ s ∷ [])) e = rw to at bad in
    let same : (steps ++ s ∷ []) ++ own.0 ≡ steps ++ s ∷ own.0 = append_assoc steps (s ∷ []) own.0 in (
      s ∷ own.0,
      own.1,
      subst (λ all. ConditionWrongAt parts (record { steps = all; end = own.1 }) e) same own.2,
    )
climb (in_rule side p) q s e to bad = rule_places.climb side p to.0 s e to.1 (rw (to.2) at bad)

pub has_fault : (steps : List Step) (p : Part) (e : Refusal) → FaultAt steps p e → PartFault p e
has_fault = fault_of_whole Part StepTo PartFault climb

pub shorter : (k : ℕ) (steps : List Step) (p : Part) (e : Refusal) → FaultAt steps p e → FaultAt (take k steps) p e
shorter = fault_of_outer Part StepTo PartFault climb

-- the steps in a rule are steps in its policy
lifted : (side : Side) (steps : List Step) (p : rules_of.Part) (e : Refusal) → rules_of.FaultAt side steps p e
    → FaultAt steps (in_rule side p) e
lifted side [] p e bad = bad
lifted side (s ∷ steps) p e bad = (in_rule side bad.0, (bad.0, bad.1, refl), lifted side steps bad.0 e bad.2)

-- the steps in a condition lead to what has the fault
further_in : (parts : ExprParts) (before after : List Step) (end : End) (e : Refusal)
    → ConditionWrongAt parts (record { steps = before ++ after; end = end }) e
    → FaultAt after (in_condition parts before) e
further_in parts before [] end e bad = ([], end, bad)
further_in parts before (s ∷ after) end e bad = (
  in_condition parts (before ++ s ∷ []),
  refl,
  further_in parts (before ++ s ∷ []) after end e
      (subst (λ all. ConditionWrongAt parts (record { steps = all; end = end }) e)
      (sym (append_assoc before (s ∷ []) after)) bad),
)

-- from the condition on
from_its_parts : (parts : ExprParts) (steps : List Step) (end : End) (e : Refusal)
    → ConditionWrongAt parts (record { steps = steps; end = end }) e → FaultAt steps (of_condition parts) e
from_its_parts parts [] end e bad = condition_fails parts (record { steps = []; end = end }) e bad
from_its_parts parts (s ∷ steps) end e bad = (in_condition parts (s ∷ []), refl, further_in parts (s ∷ []) steps end e bad)

-- ---- exits

-- out of memory, or a fault of the part
pub or_part : (Over : Path → Refusal → Type 0) (F : Refusal → Type 0) (p : Part) (f : Fault)
    → ((d : Refusal) → F d → PartFault p d) → MemoryOr F f.refusal → OfNoPart Over f ⊎ PartFault p f.refusal
or_part Over F p f weaker (inl memory) = inl (inl memory)
or_part Over F p f weaker (inr bad) = inr (weaker f.refusal bad)

-- a fault of a part is one after no steps
pub here_place : (p : Part) (f : Fault) → (path_of f.place).steps ≡ [] → PartFault p f.refusal
    → FaultAt (path_of f.place).steps p f.refusal
here_place p f here bad = subst (λ (steps : List Step). FaultAt steps p f.refusal) (sym here) bad

-- at a `?` on a callee whose fault is of the same part
pub exit_here : (Over : Path → Refusal → Type 0) (p : Part) {T : Type 0} (r : Result T Fault) (e : Fault)
    → IsErrAnd r (λ y. y ≡ e) → (path_of e.place).steps ≡ [] → OfNoPart Over e ⊎ PartFault p e.refusal
    → IfErr r (PlacedOr Over p)
exit_here Over p r e left here fault =
    let l = err_from_is_err_and r left in
    rw (l.1, l.2) (elim fault [
      | inl no_part ↦ inl no_part
      | inr bad ↦ inr (here_place p e here bad)
    ])

-- at a `?` on a callee without a place
pub exit_own : (Over : Path → Refusal → Type 0) (p : Part) {T : Type 0} (r : Result T Fault) (e : Refusal) → IsErrAnd r (IsOf 0 e)
    → PartFault p e → IfErr r (PlacedOr Over p)
exit_own Over p r e left bad =
    let l = err_from_is_err_and r left in
    rw (l.1) (inr (here_place p l.0 (ap (λ (path : Path). path.steps) l.2.1) (rw (l.2.0) bad)))

-- the fault of a rule, as one of its policy
pub from_side : (Over : Path → Refusal → Type 0) (side : Side) (parts : List (List ℕ)) (fs : List Wire) (f : Fault) → Merges parts fs
    → EachOr side rule_depth (side_field side) fs f → PlacedOr Over (of_policy parts) f
from_side Over side parts fs f merges (inl memory) = inl (inl memory)
from_side Over side parts fs f merges (inr (i, child, inner, at, begins, bad)) =
    inr (further_out Part StepTo PartFault climb (side_field side) i inner (path_of f.place)
    (of_policy parts) (in_rule side (rule rule_depth (child ∷ []))) f.refusal begins
    (fs, merges, inl (record { side = side; child = child; at = at; number = refl; is = refl }))
    (lifted side inner.steps (rule rule_depth (child ∷ [])) f.refusal bad))

-- the fault of a condition, as one of its policy
pub from_conditions : (limits : LimitsValue) (left : Budget) (parts : List (List ℕ)) (fs : List Wire) (f : Fault)
    → Merges parts fs → ConditionOr (OverInFields limits left fs) fs f
    → PlacedOr (OverInPolicy limits left parts) (of_policy parts) f
from_conditions limits left parts fs f merges (inl (inl memory)) = inl (inl memory)
from_conditions limits left parts fs f merges (inl (inr over)) = inl (inr (fs, merges, over))
from_conditions limits left parts fs f merges (inr (there, inner, wrong, begins)) =
    inr (further_out Part StepTo PartFault climb (condition_field (condition_in fs)) 0 inner (path_of f.place)
    (of_policy parts) (of_condition (condition_in fs)) f.refusal begins
    (fs, merges, inr (record { there = there; number = refl; position = refl; is = refl }))
    (from_its_parts (condition_in fs) inner.steps inner.end f.refusal wrong))

-- a policy's fault, as one of its entry
pub entry_out : (limits : LimitsValue) (left : Budget) (i : ℕ) (entry : Entry text) {T : Type 0}
    (r s : Result T Fault) → Placed rules_field.policies i r s
    → IfErr r (PlacedOr (OverInPolicy limits left entry.1) (of_policy entry.1))
    → IfErr s (EntryOr (OverInEntry limits left i entry) i entry)
entry_out limits left i entry (Ok x) s is fault = rw is tt
entry_out limits left i entry (Err e) s is fault =
    let l = err_from_is_err_and s is in
    rw (l.1) (elim fault [
      | inl no_part ↦ elim no_part [
        | inl memory ↦ inl (inl (rw (l.2.0) memory))
        | inr over ↦ inl (inr (path_of e.place, rw (l.2.0) over, l.2.1))
      ]
      | inr bad ↦ inr (path_of e.place, l.2.1, rw (l.2.0) bad)
    ])

-- the fault of an entry's policy, as one of the rules
from_policies : (parts : List (List ℕ)) (fs : List Wire) (read : List (Entry text)) (f : Fault) → Merges parts fs
    → Readable text (payloads rules_field.policies fs) read → IsOfEntry (entries (map_of text read)) f
    → FaultAt (path_of f.place).steps (of_rules parts) f.refusal
from_policies parts fs read f merges readable (i, entry, inner, at, begins, bad) =
    further_out Part StepTo PartFault climb rules_field.policies i inner (path_of f.place)
    (of_rules parts) (of_policy entry.1) f.refusal begins
    (record { fs = fs; read = read; entry = entry; merges = merges; readable = readable; at = at; number = refl; is = refl })
    bad

-- where conditions take more than the budget has, in rules of these payloads
abbrev pub OverInParts : LimitsValue → Budget → Budget → List (List ℕ) → Path → Refusal → Type 0
OverInParts limits budget left parts path e =
    (fs : List Wire) × Merges parts fs × OverInRules limits budget left fs path e

-- the fault of the rules' fields, as one of the rules
pub from_fields : (limits : LimitsValue) (budget left : Budget) (parts : List (List ℕ)) (fs : List Wire) (f : Fault)
    → Merges parts fs → FieldsOr (OverInRules limits budget left fs) fs f
    → PlacedOr (OverInParts limits budget left parts) (of_rules parts) f
from_fields limits budget left parts fs f merges (inl (inl memory)) = inl (inl memory)
from_fields limits budget left parts fs f merges (inl (inr over)) = inl (inr (fs, merges, over))
from_fields limits budget left parts fs f merges (inr (inl (bad, here))) = inr (here_place (of_rules parts) f here (inr (fs, merges, bad)))
from_fields limits budget left parts fs f merges (inr (inr (read, readable, bad))) =
    inr (from_policies parts fs read f merges readable bad)

-- the fault of the rules, as one of the filter
pub rules_out : (limits : LimitsValue) (budget left : Budget) (bytes : List ℕ) (top : List Wire) {T : Type 0}
    (r s : Result T Fault) → Merges (bytes ∷ []) top
    → payloads filter_field.rules top ≢ [] → Placed filter_field.rules 0 r s
    → IfErr r (PlacedOr (OverInParts limits budget left (payloads filter_field.rules top))
    (of_rules (payloads filter_field.rules top)))
    → IfErr s (PlacedOr (OverAt bytes limits budget left) (of_filter bytes))
rules_out limits budget left bytes top (Ok x) s merges there is fault = rw is tt
rules_out limits budget left bytes top (Err e) s merges there is fault =
    let l = err_from_is_err_and s is in
    rw (l.1) (elim fault [
      | inl no_part ↦ elim no_part [
        | inl memory ↦ inl (inl (rw (l.2.0) memory))
        | inr (fs, inside, over) ↦ inl (inr (record {
          top = top;
          fs = fs;
          inner = path_of e.place;
          outside = merges;
          inside = inside;
          over = rw (l.2.0) over;
          begins = l.2.1;
        }))
      ]
      | inr bad ↦ inr (rw (l.2.0) (further_out Part StepTo PartFault climb filter_field.rules 0
          (path_of e.place) (path_of (l.0).place) (of_filter bytes) (of_rules (payloads filter_field.rules top)) e.refusal l.2.1
          (record { top = top; merges = merges; there = there; number = refl; position = refl; is = refl }) bad))
    ])

-- the fault of an entry among others, of which those before leave this of the budget
pub entry_in : (limits : LimitsValue) (budget left : Budget) (es before after : List (Entry text)) (i : ℕ)
    (entry : Entry text) (f : Fault) (spent : Budget) → slice_get es i ≡ Some entry
    → es ≡ before ++ entry ∷ after → length before ≡ i → EntriesCost limits before spent
    → sum_of spent left ≡ budget → EntryOr (OverInEntry limits left i entry) i entry f
    → PoliciesOr (OverInPolicies limits budget left es) es f
entry_in limits budget left es before after i entry f spent at whole long costs leaves (inl (inl memory)) = inl (inl memory)
entry_in limits budget left es before after i entry f spent at whole long costs leaves (inl (inr over)) =
    inl (inr (record {
      before = before;
      entry = entry;
      after = after;
      whole = whole;
      spent = spent;
      costs = costs;
      leaves = leaves;
      over = subst (λ (k : ℕ). OverInEntry limits left k entry (path_of f.place) f.refusal) (sym long) over;
    }))
entry_in limits budget left es before after i entry f spent at whole long costs leaves (inr (inner, begins, bad)) =
    inr (i, entry, inner, at, begins, bad)

-- the fault of a filter's policies, as one of the fields of its rules
pub fields_in : (limits : LimitsValue) (budget left : Budget) (fs : List Wire) (read : List (Entry text)) (f : Fault)
    → Readable text (payloads rules_field.policies fs) read
    → PoliciesOr (OverInPolicies limits budget left (entries (map_of text read))) (entries (map_of text read)) f
    → FieldsOr (OverInRules limits budget left fs) fs f
fields_in limits budget left fs read f readable (inl (inl memory)) = inl (inl memory)
fields_in limits budget left fs read f readable (inl (inr over)) = inl (inr (read, readable, over))
fields_in limits budget left fs read f readable (inr bad) = inr (inr (read, readable, bad))

-- an element of a list that was mapped
pub at_map : {A B : Type 0} (g : A → B) (xs : List A) (i : ℕ) (d : A) → i < length xs
    → slice_get (map g xs) i ≡ Some (g (get_or xs i d))
at_map g [] i d within = absurd (omega (arith, within))
at_map g (x ∷ xs) zero d within = refl
at_map g (x ∷ xs) (suc i) d within = at_map g xs i d (omega (arith, within))

-- a fault of a condition that was placed inside its field
pub condition_out : (limits : LimitsValue) (left : Budget) (fs : List Wire) (n : ℕ) (inner outer : Fault)
    → ConditionPartOr (OverInCondition limits left (condition_in fs)) (condition_in fs) inner
    → n ≡ condition_field (condition_in fs) → IsInside n 0 inner outer
    → ConditionOr (OverInFields limits left fs) fs outer
condition_out limits left fs n inner outer (inl (inl memory)) number inside = inl (inl (rw (inside.0) memory))
condition_out limits left fs n inner outer (inl (inr over)) number inside = inl (inr (
  expr_given (condition_in fs) over.0 over.2,
  path_of inner.place,
  rw (inside.0) over,
  rw number at inside.1,
))
condition_out limits left fs n inner outer (inr (there, wrong)) number inside =
    inr (there, path_of inner.place, rw (inside.0) wrong, rw number at inside.1)

-- the fault of an expression that has no type
pub untyped_node : (Over : Path → Refusal → Type 0) (x : CelChecked) (f : Fault) → Placed_or (CheckFaultAt x) f
    → NodeOr Over x f
untyped_node Over x f (inl memory) = inl (inl memory)
untyped_node Over x f (inr bad) = inr (untyped_at bad)

-- at a `?` on a callee without a place that ran out of memory
pub exit_no_memory : (Over : Path → Refusal → Type 0) (x : CelChecked) {T : Type 0} (r : Result T Fault) (e : Refusal)
    → IsErrAnd r (IsOf 0 e) → e ≡ Memory → IfErr r (NodeOr Over x)
exit_no_memory Over x r e left memory =
    let l = err_from_is_err_and r left in
    rw (l.1) (inl (inl (l.2.0 ∙ memory)))

-- at a `?` on a callee without a place, for an expression that takes more than is left
pub exit_over : (limits : LimitsValue) (budget needs : Budget) (x : CelChecked) {T : Type 0} (r : Result T Fault)
    (e : Refusal) → IsErrAnd r (IsOf 0 e) → Costs limits x needs → IsTooSmallFor budget needs e
    → IfErr r (NodeOr (OverIn limits budget x) x)
exit_over limits budget needs x r e left costs small =
    let l = err_from_is_err_and r left in
    rw (l.1) (inl (inr (needs, costs, rw (l.2.0) small, ap (λ (path : Path). path.steps) l.2.1)))

-- at a `?` on what reads a condition's expression
pub expr_exit : (Over : Path → Refusal → Type 0) (parts : ExprParts) {T : Type 0} (r : Result T Fault) (e : Fault) → IsErrAnd r (λ y. y ≡ e)
    → ArePresent parts → Placed_or (ExprFaultAt parts) e → IfErr r (ConditionPartOr Over parts)
expr_exit Over parts r e left there fault =
    let l = err_from_is_err_and r left in
    rw (l.1, l.2) (elim fault [
      | inl memory ↦ inl (inl memory)
      | inr bad ↦ inr (there, unreadable_at bad)
    ])

-- s is r, whose fault is one of the condition
abbrev pub OfExpr : {T : Type 0} → ExprParts → Result T Fault → Result T Fault → Type 0
OfExpr parts r s = MatchResult r (λ x. s ≡ Ok x)
    (λ e. IsErrAnd s (λ f. (f.refusal ≡ e.refusal) × IsOfExpr parts (path_of e.place) (path_of f.place)))

pub node_out : (limits : LimitsValue) (left : Budget) (parts : ExprParts) (x : CelChecked) {T : Type 0}
    (r s : Result T Fault) → OfExpr parts r s → ArePresent parts → IsExprOf parts x
    → IfErr r (NodeOr (OverIn limits left x) x)
    → IfErr s (ConditionPartOr (OverInCondition limits left parts) parts)
node_out limits left parts x (Ok y) s is there reads fault = rw is tt
node_out limits left parts x (Err e) s is there reads fault =
    let l = err_from_is_err_and s is in
    rw (l.1) (elim fault [
      | inl no_part ↦ elim no_part [
        | inl memory ↦ inl (inl (rw (l.2.0) memory))
        | inr over ↦ inl (inr (x, path_of e.place, reads, rw (l.2.0) over, l.2.1))
      ]
      | inr bad ↦ inr (there, rw (l.2.0) (wrong_at x (path_of e.place) reads bad l.2.1))
    ])

pub of_expr_found : {T : Type 0} (parts : ExprParts) (P : T → Type 0) (r s : Result T Fault) → OfExpr parts r s
    → IfOk r P → IfOk s P
of_expr_found parts P (Ok x) s is found = rw is found
of_expr_found parts P (Err e) s is found = rw ((err_from_is_err_and s is).1) tt

pub of_expr_fault : {T : Type 0} (parts : ExprParts) (F G : Refusal → Type 0) (r s : Result T Fault) → OfExpr parts r s
    → IfErr r (FaultOr F) → ((d : Refusal) → F d → G d) → IfErr s (FaultOr G)
of_expr_fault parts F G (Ok x) s is fault weaker = rw is tt
of_expr_fault parts F G (Err e) s is fault weaker =
    let l = err_from_is_err_and s is in
    rw (l.1, l.2.0) (memory_or_weaker F G e.refusal weaker fault)

-- a fault of the fields of the rules that is of no policy
pub fields_at : (Over : Path → Refusal → Type 0) (fs : List Wire) (n : ℕ) (e : Refusal) {T : Type 0} (r : Result T Fault) (f : Fault)
    → IsErrAnd r (λ y. y ≡ f) → IsOf n e f → RulesFault fs e → IfErr r (FieldsOr Over fs)
fields_at Over fs n e r f left at bad =
    let l = err_from_is_err_and r left in
    rw (l.1, l.2) (inr (inl (rw (at.0) bad, ap (λ (path : Path). path.steps) at.1)))

-- the same, of one without a place
pub fields_own : (Over : Path → Refusal → Type 0) (fs : List Wire) {T : Type 0} (r : Result T Fault) (e : Refusal) → IsErrAnd r (IsOf 0 e)
    → MemoryOr (RulesFault fs) e → IfErr r (FieldsOr Over fs)
fields_own Over fs r e left fault =
    let l = err_from_is_err_and r left in
    rw (l.1) (elim fault [
      | inl memory ↦ inl (inl (l.2.0 ∙ memory))
      | inr bad ↦ inr (inl (rw (l.2.0) bad, ap (λ (path : Path). path.steps) l.2.1))
    ])

-- at a `?` on a callee whose fault is of a field of the part
pub exit_at : (Over : Path → Refusal → Type 0) (p : Part) (n : ℕ) (e : Refusal) {T : Type 0} (r : Result T Fault) (f : Fault) → IsErrAnd r (λ y. y ≡ f)
    → IsOf n e f → PartFault p e → IfErr r (PlacedOr Over p)
exit_at Over p n e r f left at bad =
    exit_here Over p r f left (ap (λ (path : Path). path.steps) at.1) (inr (rw (at.0) bad))

-- the fault of a message's fields, as one of the part that is the message
pub fields_placed : (Over : Path → Refusal → Type 0) (keys : List Key) (parts : List (List ℕ)) (p : Part) {T : Type 0} (r : Result T Fault)
    → IfErr r (FaultOr (MessageFault keys parts)) → IfErr r (MessagePlace keys parts)
    → ((d : Refusal) → MessageFault keys parts d → PartFault p d) → IfErr r (PlacedOr Over p)
fields_placed Over keys parts p (Ok x) fault place weaker = tt
fields_placed Over keys parts p (Err f) fault place weaker = elim fault [
  | inl memory ↦ inl (inl memory)
  | inr bad ↦ inr (here_place p f (no_steps keys parts f place) (weaker f.refusal bad))
]
