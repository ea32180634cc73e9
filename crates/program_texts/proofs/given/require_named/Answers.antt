-- The members are named as facts where the search finds no other name; a name that it finds is that of a member.
use Rattle.std.proofs.Common.{◌≡◌, ℕ, zero, suc, ◌<◌, List, [], ◌∷◌, length, map, ap, inl, inr, String, Global, string_bytes, arith, rules, tests}
use Rattle.std.proofs.lemmas.Iterator.{first_from_find}
use Rattle.std.proofs.lemmas.Iterator.Consumers.{YieldsList-from_rest}
use Rattle.std.specs.List.{AllWithin, HoldsAt}
use Rattle.std.specs.BTreeMap.{keys}
use Rattle.serde_json.specs.View.{members_view}
use Rattle.serde_json.specs.declared.value.Value.{Value}
use Rattle.program_texts.specs.Facts.{AreNamed, HasMember, IsFactName}
use Rattle.program_texts.proofs.given.require_named.Goals as goal

abbrev names_of : List (String Global × Value) → List (String Global)
names_of ms = map (λ m. m.0) ms

abbrev IsKnown : String Global → Type 0
IsKnown name = IsFactName (string_bytes name)

abbrev IsUnknown : String Global → Type 0
IsUnknown name = IsKnown name → ⊥

all_known : (ms : List (String Global × Value))
    → AllWithin IsKnown (names_of ms) 0 (length (names_of ms)) → AreNamed (members_view ms)
all_known [] known = tt
all_known (m ∷ ms) known = (
  known 0 m.0 (omega arith) (omega arith),
  all_known ms (λ k d low below. known (suc k) d (omega arith) (omega arith)),
)

has_name : (ms : List (String Global × Value)) (name : String Global) (k : ℕ) → k < length (names_of ms)
    → HoldsAt (λ y. y ≡ name) (names_of ms) k → HasMember (string_bytes name) (members_view ms)
has_name [] name k below at = absurd (omega arith)
has_name (m ∷ ms) name zero below at = inl (ap string_bytes (at m.0))
has_name (m ∷ ms) name (suc k) below at = inr (has_name ms name k (omega arith) at)

pub returns-in-Some : goal.returns-in-Some
returns-in-Some c =
    let first = first_from_find _ _ c.find.result IsUnknown IsKnown c.find.ensures.ran
    (YieldsList-from_rest (keys c.args.members.now) c.keys.ensures.rest) (λ x q k. search (rules, tests)) (λ x q k. search (rules, tests)) in
    let here = rw c.in-Some.is at first in
    record {
      found = tt;
      fault = (
        rw c.as_str.ensures.value (has_name c.args.members.now.entries c.in-Some.name.now here.1 here.2 here.3),
        rw c.as_str.ensures.value here.0,
      );
    }

pub returns-in-None : goal.returns-in-None
returns-in-None c =
    let first = first_from_find _ _ c.find.result IsUnknown IsKnown c.find.ensures.ran
    (YieldsList-from_rest (keys c.args.members.now) c.keys.ensures.rest) (λ x q k. search (rules, tests)) (λ x q k. search (rules, tests)) in
    record { found = all_known c.args.members.now.entries (rw c.in-None.is at first); fault = tt }
