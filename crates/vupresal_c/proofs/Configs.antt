-- Why settings make no configuration, from the fault of its maker.
use Rattle.std.proofs.Common.{◌≡◌, ◌⊎◌, inl, inr, List, Some, refl}
use Rattle.std.specs.String.{string_bytes}
use Rattle.std.specs.declared.alloc.Global.{Global}
use Rattle.std.specs.declared.string.String.{String}
use Rattle.ads.specs.Config.{IsAtFault}
use Rattle.ads.specs.Views.{config_of, filters_view}
use Rattle.ads.specs.declared.config.ConfigFault.{ConfigFault}
use Rattle.ads.specs.declared.config.Filter.{Filter}
use Rattle.attributes.specs.Limits.{LimitsValue}
use Rattle.c_inputs.specs.Bounds.{limits_given}
use Rattle.vupresal_c.specs.Settings.{AreOutOfRange, SettingsFail, config_given, resources_given}
use Rattle.vupresal_c.specs.Statuses.{of_config}
use Rattle.vupresal_c.specs.declared.settings.Settings.{Settings}

-- a fault of the configuration that is given
fails_given : (s : Settings) (limits : LimitsValue) (e : ConfigFault) → limits_given s.bounds ≡ Some limits
    → (e ≡ ConfigFault.Memory) ⊎ IsAtFault (config_given s limits) e → SettingsFail s (of_config e)
fails_given s limits ConfigFault.Memory given why = inl refl
fails_given s limits ConfigFault.NoFilter given (inl same) = absurd cc
fails_given s limits ConfigFault.NoFilter given (inr fault) =
    inr (refl, AreOutOfRange.config limits ConfigFault.NoFilter given fault)
fails_given s limits ConfigFault.TooManyFilters given (inl same) = absurd cc
fails_given s limits ConfigFault.TooManyFilters given (inr fault) =
    inr (refl, AreOutOfRange.config limits ConfigFault.TooManyFilters given fault)
fails_given s limits ConfigFault.DoubledName given (inl same) = absurd cc
fails_given s limits ConfigFault.DoubledName given (inr fault) =
    inr (refl, AreOutOfRange.config limits ConfigFault.DoubledName given fault)
fails_given s limits ConfigFault.BadName given (inl same) = absurd cc
fails_given s limits ConfigFault.BadName given (inr fault) =
    inr (refl, AreOutOfRange.config limits ConfigFault.BadName given fault)
fails_given s limits ConfigFault.BadBudget given (inl same) = absurd cc
fails_given s limits ConfigFault.BadBudget given (inr fault) =
    inr (refl, AreOutOfRange.config limits ConfigFault.BadBudget given fault)

-- a fault of the configuration with these parts, which are those that are given
pub config_fails : (s : Settings) (limits : LimitsValue) (node cluster : String Global) (filters : List Filter)
    (e : ConfigFault) → limits_given s.bounds ≡ Some limits → string_bytes node ≡ s.node.now
    → string_bytes cluster ≡ s.cluster.now → filters_view filters ≡ resources_given s.bounds s.filters.now
    → (e ≡ ConfigFault.Memory) ⊎ IsAtFault (config_of node cluster filters limits) e → SettingsFail s (of_config e)
config_fails s limits node cluster filters e given same_node same_cluster same_filters why =
    fails_given s limits e given (rw (same_node, same_cluster, same_filters) at why)
