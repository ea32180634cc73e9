-- The settings of a proxy for C (this project's own): the configuration that they are, and why they are none.
use Rattle.std.specs.Prelude.{◌≡◌, ◌⊎◌, ◌||◌, Bool, IsTrue, nat_lt, List, Some, None, IsSomeAnd, length, map}
use Rattle.std.specs.List.{AllByRecursion, list_any}
use Rattle.std.specs.Str.{IsUtf8}
use Rattle.ads.specs.Config.{ConfigValue, FilterValue, IsAtFault}
use Rattle.ads.specs.declared.config.ConfigFault.{ConfigFault}
use Rattle.attributes.specs.Limits.{LimitsValue}
use Rattle.c_inputs.specs.Bounds.{limits_given}
use Rattle.c_inputs.specs.declared.bounds.Bounds.{Bounds}
use Rattle.proto_wire.specs.declared.refusal.Refusal.{Refusal}
use Rattle.proxy_core.specs.Events.{no_output, output_view}
use Rattle.proxy_core.specs.Proxies.{proxy_view}
use Rattle.proxy_core.specs.Step.{new_proxy}
use Rattle.c_slots.specs.declared.proxy_slot.Core.{Core}
use Rattle.vupresal_c.specs.Admission.{budget_given}
use Rattle.vupresal_c.specs.declared.fault.Fault.{Fault}
use Rattle.vupresal_c.specs.declared.fault.Fault.TheVariants.{OutOfRange, Refused}
use Rattle.vupresal_c.specs.declared.settings.Resource.{Resource}
use Rattle.vupresal_c.specs.declared.settings.Settings.{Settings}

-- a filter as it is given; the bounds have the visits of its budget
abbrev pub resource_given : Bounds → Resource → FilterValue
resource_given bounds r = record { name = r.name.now; budget = budget_given bounds r.budget }

-- the filters as they are given, in order
abbrev pub resources_given : Bounds → List Resource → List FilterValue
resources_given bounds resources = map (resource_given bounds) resources

-- the configuration that the settings are, with these limits
abbrev pub config_given : Settings → LimitsValue → ConfigValue
config_given s limits = record {
  node = s.node.now;
  cluster = s.cluster.now;
  filters = resources_given s.bounds s.filters.now;
  limits = limits;
}

-- the configuration of the settings
abbrev pub IsConfig : Settings → ConfigValue → Type 0
IsConfig s config = IsSomeAnd (limits_given s.bounds) (λ limits. config ≡ config_given s limits)

-- the core of a new proxy with these settings, which has put out nothing
abbrev pub IsNewCore : Settings → Core → Type 0
IsNewCore s core = IsSomeAnd (limits_given s.bounds) (λ limits.
    proxy_view core.proxy ≡ new_proxy (config_given s limits)) × (output_view core.output ≡ no_output)

-- each name is UTF-8
abbrev pub AreTexts : List Resource → Type 0
AreTexts resources = AllByRecursion (λ r. IsUtf8 r.name.now) resources

-- out of memory, or a text is none
abbrev pub TextFails : Type 0 → Fault → Type 0
TextFails IsText e = (e ≡ Refused Refusal.Memory) ⊎ ((e ≡ OutOfRange) × (IsText → ⊥))

-- the name of a resource has more than 256 bytes
abbrev pub is_long_name : Resource → Bool
is_long_name r = nat_lt 256 (length r.name.now)

-- some resource's name is too long
abbrev pub has_long_name : List Resource → Bool
has_long_name resources = list_any is_long_name resources

-- whatever the bytes of the names are, there are more than 8 filters, or some name has more than 256 bytes
abbrev pub are_too_long : Settings → Bool
are_too_long s = nat_lt 256 (length s.node.now) || nat_lt 256 (length s.cluster.now)
    || nat_lt 8 (length s.filters.now) || has_long_name s.filters.now

-- what is wrong with settings out of range
pub data AreOutOfRange (s : Settings) : Type 0 where
  bounds : limits_given s.bounds ≡ None → AreOutOfRange s
  node : (IsUtf8 s.node.now → ⊥) → AreOutOfRange s
  cluster : (IsUtf8 s.cluster.now → ⊥) → AreOutOfRange s
  names : (AreTexts s.filters.now → ⊥) → AreOutOfRange s
  lengths : IsTrue (are_too_long s) → AreOutOfRange s
  config : (limits : LimitsValue) (e : ConfigFault) → limits_given s.bounds ≡ Some limits
      → IsAtFault (config_given s limits) e → AreOutOfRange s

-- the settings make no core: memory ran out, or they are out of range
abbrev pub SettingsFail : Settings → Fault → Type 0
SettingsFail s e = (e ≡ Refused Refusal.Memory) ⊎ ((e ≡ OutOfRange) × AreOutOfRange s)
