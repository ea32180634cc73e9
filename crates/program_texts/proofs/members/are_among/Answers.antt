-- The members are among the names where each key is one of them, and are not where some key is none.
use Rattle.std.proofs.Common.{◌≡◌, ◌↔◌, ℕ, zero, suc, ◌<◌, ◌≤◌, List, [], ◌∷◌, Bool, true, false, length, get_or, map, IsTrue, String, Global, string_bytes, arith, rules, tests}
use Rattle.std.proofs.lemmas.Iterator.{cases_from_all}
use Rattle.std.proofs.lemmas.Iterator.Consumers.{YieldsList-from_rest}
use Rattle.std.specs.Prelude.{MatchBool}
use Rattle.std.specs.List.{AllWithin, HoldsAt}
use Rattle.std.specs.BTreeMap.{keys}
use Rattle.serde_json.specs.View.{members_view}
use Rattle.serde_json.specs.declared.value.Value.{Value}
use Rattle.proto_wire.specs.Merge.{SomeOf}
use Rattle.program_texts.specs.Members.{AreAmong}
use Rattle.program_texts.proofs.members.are_among.Goals as goal

abbrev keys_of : List (String Global × Value) → List (String Global)
keys_of ms = map (λ m. m.0) ms

module _ (names : List (List ℕ)) where
  abbrev IsKnown : String Global → Type 0
  IsKnown name = SomeOf (λ n. n ≡ string_bytes name) names

  abbrev IsUnknown : String Global → Type 0
  IsUnknown name = IsKnown name → ⊥

  all_known : (ms : List (String Global × Value))
      → ((k : ℕ) (d : String Global) → 0 ≤ k → k < length (keys_of ms) → IsKnown (get_or (keys_of ms) k d))
      → AreAmong names (members_view ms)
  all_known [] known = tt
  all_known (m ∷ ms) known = (
    known 0 m.0 (omega arith) (omega arith),
    all_known ms (λ k d low below. known (suc k) d (omega arith) (omega arith)),
  )

  one_unknown : (ms : List (String Global × Value)) (k : ℕ) → k < length (keys_of ms)
      → HoldsAt IsUnknown (keys_of ms) k → AreAmong names (members_view ms) → ⊥
  one_unknown [] k below unknown among = absurd (omega arith)
  one_unknown (m ∷ ms) zero below unknown among = unknown m.0 among.0
  one_unknown (m ∷ ms) (suc k) below unknown among = one_unknown ms k (omega arith) unknown among.1

  -- by either answer
  among_iff : (b : Bool) (ms : List (String Global × Value))
      → MatchBool b (AllWithin IsKnown (keys_of ms) 0 (length (keys_of ms)))
      ((k : ℕ) × (k < length (keys_of ms)) × HoldsAt IsUnknown (keys_of ms) k)
      → IsTrue b ↔ AreAmong names (members_view ms)
  among_iff true ms all = (λ _. all_known ms all, λ _. search rules)
  among_iff false ms some = (λ b. search rules, λ among. absurd (one_unknown ms some.0 some.1 some.2 among))

pub returns : goal.returns
returns c =
    let names = map (λ n. n.now) c.args.names.now in
    among_iff names c.all.result c.args.members.now.entries
    (cases_from_all _ _ c.all.result (IsKnown names) (IsUnknown names) c.all.ensures.ran
    (YieldsList-from_rest (keys c.args.members.now) c.keys.ensures.rest) (λ x q k. search (rules, tests)) (λ x q k. search (rules, tests)))
