-- The fields of a filter's messages: Envoy v3 `extensions/filters/http/rbac/v3/rbac.proto` and
-- `config/rbac/v3/rbac.proto`.
use Rattle.std.specs.Prelude.{ℕ, List, [], ◌∷◌}
use Rattle.proto_wire.specs.Keys.{len_key, varint_key}
use Rattle.proto_wire.specs.declared.key.Key.{Key}

-- the numbers of the fields of the HTTP filter (`extensions.filters.http.rbac.v3.RBAC`): it enforces `rules`,
-- and the others are skipped
abbrev pub filter_field : record { rules : ℕ; shadow_rules : ℕ; shadow_rules_stat_prefix : ℕ }
filter_field = record { rules = 1; shadow_rules = 2; shadow_rules_stat_prefix = 3 }

-- the fields of the HTTP filter
abbrev pub filter_keys : List Key
filter_keys = len_key filter_field.rules ∷ len_key filter_field.shadow_rules
    ∷ len_key filter_field.shadow_rules_stat_prefix ∷ []

-- the numbers of the fields of its rules (`config.rbac.v3.RBAC`): `action` is an enum, and
-- `policies` a map from names to policies
abbrev pub rules_field : record { action : ℕ; policies : ℕ; audit_logging_options : ℕ }
rules_field = record { action = 1; policies = 2; audit_logging_options = 3 }

-- the fields of the rules
abbrev pub rules_keys : List Key
rules_keys = varint_key rules_field.action ∷ len_key rules_field.policies
    ∷ len_key rules_field.audit_logging_options ∷ []

-- the numbers of the fields of a policy (`config.rbac.v3.Policy`): `condition` is only parsed, and
-- `checked_condition` is the result of a type checker
abbrev pub policy_field : record { permissions : ℕ; principals : ℕ; condition : ℕ; checked_condition : ℕ }
policy_field = record { permissions = 1; principals = 2; condition = 3; checked_condition = 4 }

-- the fields of a policy
abbrev pub policy_keys : List Key
policy_keys = len_key policy_field.permissions ∷ len_key policy_field.principals
    ∷ len_key policy_field.condition ∷ len_key policy_field.checked_condition ∷ []
