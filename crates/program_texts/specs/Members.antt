-- The members of a JSON object, by their names (RFC 8259 section 4).
use Rattle.std.specs.Prelude.{◌≡◌, ℕ, List, [], ◌∷◌, Option, unwrap_or}
use Rattle.serde_json.specs.Data.{Data, Items, no_items, item, Members, no_members, member, object}
use Rattle.proto_wire.specs.Merge.{SomeOf}
use Rattle.program_texts.specs.Facts.{IsNumber, BothOrNone}

-- the name of each member is one of these
abbrev pub AreAmong : List (List ℕ) → Members → Type 0
AreAmong names no_members = Unit {0}
AreAmong names (member name d ms) = SomeOf (λ n. n ≡ name) names × AreAmong names ms

-- the value is an object, and each of its names is one of these
abbrev pub HasOnly : List (List ℕ) → Data → Type 0
HasOnly names d = (ms : Members) × (d ≡ object ms) × AreAmong names ms

-- the value is this unsigned integer; if there is no value, the number is `absent`
abbrev pub IsNumberOr : ℕ → Option Data → ℕ → Type 0
IsNumberOr absent d n = (named : Option ℕ) × BothOrNone IsNumber d named × (n ≡ unwrap_or named absent)

-- the values of an array, in order
abbrev pub values : Items → List Data
values no_items = []
values (item d ds) = d ∷ values ds
