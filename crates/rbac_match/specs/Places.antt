-- Where in a rule a fault is: the parts of a rule, and the steps to them.
use Rattle.std.specs.Prelude.{◌≡◌, ◌==◌, ◌⊎◌, ℕ, zero, suc, false, cond, List, [], ◌∷◌, None, Some}
use Rattle.proto_wire.specs.Fields.{Wire}
use Rattle.proto_wire.specs.Merge.{Merges}
use Rattle.proto_wire.specs.Places as places
use Rattle.proto_wire.specs.Places.{Path, BeginsWith, path_of}
use Rattle.proto_wire.specs.Oneof.{member_run, last_number, member_in}
use Rattle.proto_wire.specs.Values.{bool_at, len_in, payloads}
use Rattle.proto_wire.specs.declared.place.Step.{Step}
use Rattle.proto_wire.specs.declared.placed.Fault.{Fault}
use Rattle.proto_wire.specs.declared.refusal.Refusal.{Refusal}
use Rattle.proto_wire.specs.declared.refusal.Refusal.TheVariants.{Memory, OutOfRange}
use Rattle.rbac_match.specs.Leaves.{LeafFault}
use Rattle.rbac_match.specs.Message.{members, rule_keys, set_field}
use Rattle.rbac_match.specs.Rules.{RuleFault, SetFault}
use Rattle.rbac_match.specs.declared.member.LeafKind.{LeafKind}
use Rattle.rbac_match.specs.declared.member.Member.{Member}
use Rattle.rbac_match.specs.declared.member.Member.TheVariants.{And, Or, Any, Not, Leaf}
use Rattle.rbac_match.specs.declared.rule.Side.{Side}

-- a part of a rule: a rule or a set of rules with its payloads, which may have this many levels. Or it is the run
-- of `any` or of a test of one fact, whose fields have this number
pub data Part : Type 0 where
  rule : (depth : ℕ) → List (List ℕ) → Part
  set : (depth : ℕ) → List (List ℕ) → Part
  always : (number : ℕ) → List Wire → Part
  leaf : LeafKind → (number : ℕ) → List Wire → Part

-- a fault of a part
abbrev pub PartFault : Side → Part → Refusal → Type 0
PartFault side (rule depth parts) e = RuleFault side depth parts e
PartFault side (set depth parts) e = SetFault (RuleFault side depth) parts e
PartFault side (always n run) e = (bool_at n run ≡ false) × (e ≡ OutOfRange)
PartFault side (leaf kind n run) e = LeafFault kind n run e

-- the part in the run of this member
abbrev pub part_of : ℕ → Member → ℕ → List Wire → Part
part_of depth And n run = set depth (payloads n run)
part_of depth Or n run = set depth (payloads n run)
part_of depth Any n run = always n run
part_of depth Not n run = rule depth (payloads n run)
part_of depth (Leaf kind) n run = leaf kind n run

-- the field at this position has this number, and this LEN payload
abbrev pub IsAt : List Wire → ℕ → ℕ → List ℕ → Type 0
IsAt [] n position child = ⊥
IsAt (f ∷ fs) n zero child = cond (f.number == n) (len_in f.payload) None ≡ Some child
IsAt (f ∷ fs) n (suc position) child = IsAt fs n position child

-- the step leads from a part to this part in it. It leads from a rule to its last member, whose fields merge, and from
-- a set to one of its rules. Which field of a test a step names is not said
abbrev pub StepTo : Side → Part → Step → Part → Type 0
StepTo side (rule zero parts) s q = ⊥
StepTo side (rule (suc depth) parts) s q = (fs : List Wire) × (member : Member) × Merges parts fs
    × (last_number (rule_keys side) fs ≡ Some s.number)
    × (member_in (members side) s.number ≡ Some member)
    × (q ≡ part_of depth member s.number (member_run (rule_keys side) fs)) × (s.position ≡ 0)
StepTo side (set depth parts) s q = (fs : List Wire) × (child : List ℕ) × Merges parts fs
    × IsAt fs set_field.rules s.position child × (s.number ≡ set_field.rules)
    × (q ≡ rule depth (child ∷ []))
StepTo side (always n run) s q = ⊥
StepTo side (leaf kind n run) s q = q ≡ leaf kind n run

-- the part to which the steps lead has the fault
abbrev pub FaultAt : Side → List Step → Part → Refusal → Type 0
FaultAt side steps p e = places.FaultAt (StepTo side) (PartFault side) steps p e

-- out of memory, or the fault at its place
abbrev pub PlacedOr : Side → Part → Fault → Type 0
PlacedOr side p fault =
    (fault.refusal ≡ Memory) ⊎ FaultAt side (path_of fault.place).steps p fault.refusal

-- out of memory, or the fault at its place in one of the rules of this number, whose field the first step names
abbrev pub EachOr : Side → ℕ → ℕ → List Wire → Fault → Type 0
EachOr side depth number fs fault = (fault.refusal ≡ Memory)
    ⊎ ((position : ℕ) × (child : List ℕ) × (inner : Path) × IsAt fs number position child
    × BeginsWith number position inner (path_of fault.place)
    × FaultAt side inner.steps (rule depth (child ∷ [])) fault.refusal)
