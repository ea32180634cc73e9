-- The members of a configuration's objects, by their names (RFC 8259 sections 4 and 6).
use Rattle.std.specs.Prelude.{◌≡◌, ◌≢◌, ◌≤◌, ℕ, List, [], Bool, false, Contains, Option, None, Some, String, option_and_then, option_map, string_bytes}
use Rattle.std.specs.declared.alloc.Global.{Global}
use Rattle.serde_json.specs.Data.{Data, boolean, null, number, string, unsigned}
use Rattle.serde_json.specs.Find.{get}
use Rattle.serde_json.specs.View.{view}
use Rattle.serve_config.specs.declared.object.Object.{Object}

-- the data of an object, if it is present
abbrev pub data_of : Object → Option Data
data_of object = option_map (λ v. view v.now) object.value

-- the member of this name of an object, if both are present
abbrev pub member_of : List ℕ → Option Data → Option Data
member_of name = option_and_then (get name)

-- the number of a member: a whole number from `first` to `last`, or `absent` if there is no member
abbrev pub IsNumberFrom : ℕ → ℕ → ℕ → Option Data → ℕ → Type 0
IsNumberFrom first last absent None n = n ≡ absent
IsNumberFrom first last absent (Some d) n = (d ≡ number (unsigned n)) × (first ≤ n) × (n ≤ last)

-- the Boolean of a member, or false if there is no member
abbrev pub IsFlag : Option Data → Bool → Type 0
IsFlag None b = b ≡ false
IsFlag (Some d) b = d ≡ boolean b

-- neither the value nor what it means is present, or the value is null; or the value means what is present
abbrev pub IsOrNull : {A : Type 0} → (Data → A → Type 0) → Option Data → Option A → Type 0
IsOrNull Means None None = Unit {0}
IsOrNull Means None (Some a) = ⊥
IsOrNull Means (Some d) None = d ≡ null
IsOrNull Means (Some d) (Some a) = Means d a

-- a path of a file is not empty and has no NUL
abbrev pub IsPath : List ℕ → Type 0
IsPath bytes = (bytes ≢ []) × ¬ Contains bytes 0

-- the value is a text, which is this path
abbrev pub IsPathText : Data → String Global → Type 0
IsPathText d path = (d ≡ string (string_bytes path)) × IsPath (string_bytes path)
