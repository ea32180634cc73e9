-- A configuration as a JSON object: RFC 8259 section 4. The names of its members are this project's own.
use Rattle.std.specs.Prelude.{◌≡◌, ℕ, List, [], ◌∷◌, Option, Some, None, codes, IsUtf8}
use Rattle.std.specs.List.{AllZip}
use Rattle.ads.specs.Config.{ConfigValue, FilterValue, IsSound}
use Rattle.attributes.specs.Limits.{AreLimits, LimitsValue, largest, limit_of, name_of}
use Rattle.attributes.specs.declared.limits.Limit.{Limit}
use Rattle.serde_json.specs.Data.{Data, string, array, Items}
use Rattle.serde_json.specs.Find.{get}
use Rattle.serde_json.specs.Read.{read}
use Rattle.program_texts.specs.Members.{HasOnly, IsNumberOr, values}
use Rattle.proxy_replay.specs.declared.configuration.ConfigTextFault.{ConfigTextFault}
use Rattle.proxy_replay.specs.declared.configuration.ConfigTextFault.TheVariants.{Bad, Memory}

-- the text of a fault
abbrev pub fault_text : ConfigTextFault → List ℕ
fault_text Bad = codes "bad config"
fault_text Memory = codes "memory"

-- the names of the members that a configuration may have
abbrev pub config_names : List (List ℕ)
config_names = codes "node" ∷ codes "cluster" ∷ codes "filters" ∷ codes "limits" ∷ []

-- the names of the members that a filter may have
abbrev pub filter_names : List (List ℕ)
filter_names = codes "name" ∷ codes "budget" ∷ codes "visits" ∷ []

-- the names of the members that limits may have
abbrev pub limit_names : List (List ℕ)
limit_names =
    codes "fields" ∷ codes "name" ∷ codes "value" ∷ codes "method" ∷ codes "target" ∷ codes "text" ∷ []

-- the object means this filter; without a budget, it has 1,000,000 steps, and without visits 4,194,304
pub record IsFilterObject (d : Data) (f : FilterValue) : Type 0 where
  pub names : HasOnly filter_names d
  pub name : get (codes "name") d ≡ Some (string f.name)
  pub budget : IsNumberOr 1000000 (get (codes "budget") d) f.budget.steps
  pub visits : IsNumberOr 4194304 (get (codes "visits") d) f.budget.visits

-- the object declares these limits; a limit that it does not name has the greatest value
pub record DeclaresLimits (d : Data) (l : LimitsValue) : Type 0 where
  pub names : HasOnly limit_names d
  pub each : (limit : Limit) → IsNumberOr (limit_of limit largest) (get (name_of limit) d) (limit_of limit l)
  pub sound : AreLimits l

-- the declared limits; if none are declared, each limit has the greatest value
abbrev pub AreDeclared : Option Data → LimitsValue → Type 0
AreDeclared None l = l ≡ largest
AreDeclared (Some d) l = DeclaresLimits d l

-- the object means this configuration
pub record IsConfig (d : Data) (c : ConfigValue) : Type 0 where
  pub names : HasOnly config_names d
  pub node : get (codes "node") d ≡ Some (string c.node)
  pub cluster : get (codes "cluster") d ≡ Some (string c.cluster)
  pub items : Items
  pub listed : get (codes "filters") d ≡ Some (array items)
  pub filters : AllZip IsFilterObject (values items) c.filters
  pub limits : AreDeclared (get (codes "limits") d) c.limits
  pub sound : IsSound c

-- the bytes are the text of a JSON object that means this configuration
abbrev pub IsConfigText : List ℕ → ConfigValue → Type 0
IsConfigText text c = IsUtf8 text × ((d : Data) × (read text ≡ Some d) × IsConfig d c)
