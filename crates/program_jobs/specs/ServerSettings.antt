-- The settings of a server as a text: a JSON object (RFC 8259, section 4). The names of its members are this project's own.
use Rattle.std.specs.Prelude.{◌≡◌, ℕ, List, Option, None, Some, IsSomeAnd, IsUtf8, codes}
use Rattle.ads.specs.Config.{ConfigValue}
use Rattle.attributes.specs.Conn.{Facts}
use Rattle.program_texts.specs.Facts.{AreFacts}
use Rattle.rbac_judge.specs.Judging.{plain_facts}
use Rattle.proxy_replay.specs.Configuration.{IsConfig}
use Rattle.serde_json.specs.Data.{Data}
use Rattle.serde_json.specs.Find.{get}
use Rattle.serde_json.specs.Read.{read}
use Rattle.serve_config.specs.Settings.{AreSettings}
use Rattle.serve_config.specs.declared.config.ServeConfig.{ServeConfig}

-- what is known of every connection: the facts in this value, or the scheme `http` alone
abbrev pub AreFactsIn : Option Data → Facts → Type 0
AreFactsIn None facts = facts ≡ plain_facts
AreFactsIn (Some d) facts = AreFacts d facts

-- the value has these settings of a server, under `proxy` this configuration, and under `facts` what is known of every
-- connection
pub record MeansSettings (d : Data) (c : ConfigValue) (facts : Facts) (settings : ServeConfig) : Type 0 where
  pub members : AreSettings (Some d) settings
  pub proxy : IsSomeAnd (get (codes "proxy") d) (λ p. IsConfig p c)
  pub known : AreFactsIn (get (codes "facts") d) facts

-- the bytes are the text of a JSON object with these settings of a server, with this configuration and with these facts
abbrev pub IsSettingsText : List ℕ → ConfigValue → Facts → ServeConfig → Type 0
IsSettingsText text c facts settings =
    IsUtf8 text × ((d : Data) × (read text ≡ Some d) × MeansSettings d c facts settings)
