-- The fault of a part is one of the rule that has the part, and what a `?` passes on of its place.
use Rattle.std.proofs.Common.{◌≡◌, ◌-◌, ◌<◌, ◌==◌, ℕ, zero, suc, cond, List, [], ◌∷◌, Option, None, Some, Contains, Result, Ok, Err, IfErr, inl, inr, refl, sym, ap, subst, arith, length, map, take, get_or, ◌∙◌}
use Rattle.std.specs.Prelude.{IsErrAnd, MatchOption}
use Rattle.std.proofs.lemmas.Result.{err_from_is_err_and}
use Rattle.proto_wire.specs.Reading.{IsUnsupported, in_values}
use Rattle.proto_wire.proofs.Readers.{oneof_bad}
use Rattle.proto_wire.specs.Fields.{Wire, field_view, payload_view}
use Rattle.proto_wire.specs.Merge.{Merges}
use Rattle.proto_wire.specs.Oneof.{member_run, last_number, member_in}
use Rattle.proto_wire.specs.Places.{Path, FaultOr, IsAt as IsOf, path_of}
use Rattle.proto_wire.specs.Refusal.{MemoryOr}
use Rattle.proto_wire.specs.Values.{len_in, payloads}
use Rattle.proto_wire.specs.declared.field.Field.{Field}
use Rattle.proto_wire.specs.declared.place.Step.{Step}
use Rattle.proto_wire.specs.declared.placed.Fault.{Fault}
use Rattle.proto_wire.specs.declared.refusal.Refusal.{Refusal}
use Rattle.proto_wire.specs.declared.refusal.Refusal.TheVariants.{Missing, Unsupported}
use Rattle.proto_wire.proofs.Places.{has_fault as fault_of_whole, shorter as fault_of_outer, further_out}
use Rattle.rbac_match.specs.Leaves.{LeafFault}
use Rattle.rbac_match.specs.Message.{members, rule_keys, set_field}
use Rattle.rbac_match.specs.Places.{Part, rule, set, always, leaf, PartFault, part_of, IsAt, StepTo, FaultAt, PlacedOr, EachOr}
use Rattle.rbac_match.specs.Rules.{RuleFault, SomeRuleFault, MemberFault}
use Rattle.rbac_match.specs.declared.member.LeafKind.{LeafKind}
use Rattle.rbac_match.specs.declared.member.Member.{Member}
use Rattle.rbac_match.specs.declared.member.Member.TheVariants.{And, Or, Any, Not, Leaf}
use Rattle.rbac_match.specs.declared.rule.Side.{Side}
use Rattle.rbac_match.proofs.Basics.{contains_first, contains_later}
use Rattle.rbac_match.proofs.Exits.{Placed}

-- ---- fields

-- the payload of a field at some position is one of them
pub at_in : (n : ℕ) (fs : List Wire) (i : ℕ) (child : List ℕ) → IsAt fs n i child → Contains (payloads n fs) child
at_in n [] i child is = absurd is
at_in n (f ∷ fs) zero child is = rw is (contains_first child (payloads n fs))
at_in n (f ∷ fs) (suc i) child is =
    let rest = at_in n fs i child is in
    let here : Option (List ℕ) = cond (f.number == n) (len_in f.payload) None in
    elim here as (λ o. here ≡ o → Contains (payloads n (f ∷ fs)) child) [
      | None ↦ λ none. rw none rest
      | Some first ↦ λ some. rw some (contains_later first child (payloads n fs) rest)
    ] refl

pub is_at : (n : ℕ) (fields : List Field) (i : ℕ) (d : Field) (child : List ℕ) → i < length fields
    → cond ((get_or fields i d).number == n) (len_in (payload_view (get_or fields i d).payload)) None ≡ Some child
    → IsAt (map field_view fields) n i child
is_at n [] i d child within is = absurd (omega arith)
is_at n (f ∷ fields) zero d child within is = is
is_at n (f ∷ fields) (suc i) d child within is = is_at n fields i d child (omega arith) is

-- ---- outer parts

pub member_has : (side : Side) (depth : ℕ) (member : Member) (n : ℕ) (run : List Wire) (e : Refusal)
    → PartFault side (part_of depth member n run) e → MemberFault (RuleFault side depth) member n run e
member_has side depth And n run e bad = bad
member_has side depth Or n run e bad = bad
member_has side depth Any n run e bad = bad
member_has side depth Not n run e bad = bad
member_has side depth (Leaf kind) n run e bad = bad

-- a fault of the part to which a step leads is one of the part from which it leads
pub climb : (side : Side) (p q : Part) (s : Step) (e : Refusal) → StepTo side p s q → PartFault side q e
    → PartFault side p e
climb side (rule zero parts) q s e to bad = absurd to
climb side (rule (suc depth) parts) q s e to bad =
    let fs : List Wire = to.0 in
    let own : PartFault side (part_of depth to.1 s.number _) e = rw (to.5) at bad in
    in_values fs to.2 (oneof_bad (members side) fs IsUnsupported (MemberFault (RuleFault side depth)) s.number to.1 to.3 to.4 e
    (member_has side depth to.1 s.number _ e own))
climb side (set depth parts) q s e to bad =
    in_values to.0 to.2 (to.1, at_in set_field.rules to.0 s.position to.1 to.3, rw (to.5) at bad)
climb side (always n run) q s e to bad = absurd to
climb side (leaf kind n run) q s e to bad = rw to at bad

pub has_fault : (side : Side) (steps : List Step) (p : Part) (e : Refusal) → FaultAt side steps p e → PartFault side p e
has_fault side = fault_of_whole Part (StepTo side) (PartFault side) (climb side)

pub shorter : (side : Side) (k : ℕ) (steps : List Step) (p : Part) (e : Refusal) → FaultAt side steps p e
    → FaultAt side (take k steps) p e
shorter side = fault_of_outer Part (StepTo side) (PartFault side) (climb side)

-- a fault of a test is one at any step in it
pub leaf_place : (side : Side) (kind : LeafKind) (n : ℕ) (run : List Wire) (steps : List Step) (e : Refusal)
    → LeafFault kind n run e → FaultAt side steps (leaf kind n run) e
leaf_place side kind n run [] e bad = bad
leaf_place side kind n run (s ∷ steps) e bad = (leaf kind n run, refl, leaf_place side kind n run steps e bad)

-- a fault of a part is one after no steps
pub here_place : (side : Side) (p : Part) (f : Fault) → (path_of f.place).steps ≡ [] → PartFault side p f.refusal
    → FaultAt side (path_of f.place).steps p f.refusal
here_place side p f here bad = subst (λ (steps : List Step). FaultAt side steps p f.refusal) (sym here) bad

-- the step from a rule to the run of its last member
pub to_member : (side : Side) (depth : ℕ) (parts : List (List ℕ)) (fs : List Wire) (n : ℕ) (member : Member)
    → 0 < depth → Merges parts fs → last_number (rule_keys side) fs ≡ Some n → member_in (members side) n ≡ Some member
    → StepTo side (rule depth parts) (record { number = n; position = 0 })
    (part_of (depth - 1) member n (member_run (rule_keys side) fs))
to_member side zero parts fs n member more merges last is = absurd (omega arith)
to_member side (suc depth) parts fs n member more merges last is =
    let less : suc depth - 1 ≡ depth = omega arith in
    (fs, member, merges, last, is, ap (λ d. part_of d member n (member_run (rule_keys side) fs)) less, refl)

-- the fault that no member counts, or one that is not supported, has no steps
pub last_steps : (o : Option ℕ) (A : ℕ → Type 0) (f : Fault)
    → MatchOption o (IsOf 0 Missing f) (λ n. A n × IsOf n Unsupported f) → (path_of f.place).steps ≡ []
last_steps None A f bad = ap (λ (path : Path). path.steps) bad.1
last_steps (Some n) A f bad = ap (λ (path : Path). path.steps) bad.1.1

pub last_refusal : (o : Option ℕ) (A : ℕ → Type 0) (f : Fault)
    → MatchOption o (IsOf 0 Missing f) (λ n. A n × IsOf n Unsupported f)
    → MatchOption o (f.refusal ≡ Missing) (λ n. A n × (f.refusal ≡ Unsupported))
last_refusal None A f bad = bad.0
last_refusal (Some n) A f bad = (bad.0, bad.1.0)

-- ---- exits

module _ (side : Side) where
  -- at a `?` on a callee whose fault is of the same part
  pub exit_here : (p : Part) {T : Type 0} (r : Result T Fault) (e : Fault) → IsErrAnd r (λ y. y ≡ e)
      → (path_of e.place).steps ≡ [] → MemoryOr (PartFault side p) e.refusal → IfErr r (PlacedOr side p)
  exit_here p r e left here fault =
      let l = err_from_is_err_and r left in
      rw (l.1, l.2) (elim fault [
        | inl memory ↦ inl memory
        | inr bad ↦ inr (here_place side p e here bad)
      ])

  -- at a `?` on a callee without a place
  pub exit_own : (p : Part) {T : Type 0} (r : Result T Fault) (e : Refusal) → IsErrAnd r (IsOf 0 e)
      → PartFault side p e → IfErr r (PlacedOr side p)
  exit_own p r e left bad =
      let l = err_from_is_err_and r left in
      rw (l.1) (inr (here_place side p l.0 (ap (λ (path : Path). path.steps) l.2.1) (rw (l.2.0) bad)))

  -- the fault of a leaf's reader
  pub leaf_placed : (kind : LeafKind) (n : ℕ) (run : List Wire) {T : Type 0} (r : Result T Fault)
      → IfErr r (FaultOr (LeafFault kind n run)) → IfErr r (PlacedOr side (leaf kind n run))
  leaf_placed kind n run (Ok x) fault = tt
  leaf_placed kind n run (Err e) (inl memory) = inl memory
  leaf_placed kind n run (Err e) (inr bad) = inr (leaf_place side kind n run (path_of e.place).steps e.refusal bad)

  -- one step further out
  pub step_out : (p q : Part) (n i : ℕ) {T : Type 0} (r s : Result T Fault) → Placed n i r s
      → IfErr r (PlacedOr side q) → StepTo side p (record { number = n; position = i }) q → IfErr s (PlacedOr side p)
  step_out p q n i (Ok x) s is fault leads = rw is tt
  step_out p q n i (Err e) s is fault leads =
      let l = err_from_is_err_and s is in
      rw (l.1) (elim fault [
        | inl memory ↦ inl (l.2.0 ∙ memory)
        | inr bad ↦ inr (rw (l.2.0) (further_out Part (StepTo side) (PartFault side) (climb side) n i
            (path_of e.place) (path_of (l.0).place) p q e.refusal l.2.1 leads bad))
      ])

  -- from one of the rules of a number
  pub each_out : (depth n : ℕ) (fs : List Wire) (i : ℕ) (child : List ℕ) {T : Type 0} (r s : Result T Fault)
      → Placed n i r s → IfErr r (PlacedOr side (rule depth (child ∷ []))) → IsAt fs n i child
      → IfErr s (EachOr side depth n fs)
  each_out depth n fs i child (Ok x) s is fault item = rw is tt
  each_out depth n fs i child (Err e) s is fault item =
      let l = err_from_is_err_and s is in
      rw (l.1) (elim fault [
        | inl memory ↦ inl (l.2.0 ∙ memory)
        | inr bad ↦ inr (i, child, path_of e.place, item, l.2.1, rw (l.2.0) bad)
      ])

  -- the rules of a set
  pub set_out : (depth : ℕ) (parts : List (List ℕ)) (fs : List Wire) (f : Fault) → Merges parts fs
      → EachOr side depth set_field.rules fs f → PlacedOr side (set depth parts) f
  set_out depth parts fs f merges (inl memory) = inl memory
  set_out depth parts fs f merges (inr bad) =
      inr (further_out Part (StepTo side) (PartFault side) (climb side) set_field.rules bad.0 bad.2 (path_of f.place)
      (set depth parts) (rule depth (bad.1 ∷ [])) f.refusal bad.4 (fs, bad.1, merges, bad.3, refl, refl) bad.5)

  -- without the places
  pub some_fault : (depth n : ℕ) (fs : List Wire) (f : Fault) → EachOr side depth n fs f
      → FaultOr (SomeRuleFault side depth (payloads n fs)) f
  some_fault depth n fs f (inl memory) = inl memory
  some_fault depth n fs f (inr bad) =
      inr (bad.1, at_in n fs bad.0 bad.1 bad.3, has_fault side (bad.2).steps (rule depth (bad.1 ∷ [])) f.refusal bad.5)

  pub rule_fault : (depth : ℕ) (parts : List (List ℕ)) (f : Fault) → PlacedOr side (rule depth parts) f
      → FaultOr (RuleFault side depth parts) f
  rule_fault depth parts f (inl memory) = inl memory
  rule_fault depth parts f (inr bad) =
      inr (has_fault side (path_of f.place).steps (rule depth parts) f.refusal bad)
