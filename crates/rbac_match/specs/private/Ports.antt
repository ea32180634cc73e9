-- How bounds are found not to be those of ports.
use Rattle.std.specs.Prelude.{pos, ◌<ℤ◌, ◌≤ℤ◌, ◌⊎◌, List}
use Rattle.proto_wire.specs.Fields.{Wire}
use Rattle.proto_wire.specs.Values.{int32_at}
use Rattle.rbac_match.specs.Message.{range_field}

-- the first port is below 0, the last is above 65,535, or there is none
abbrev pub AreNoBounds : List Wire → Type 0
AreNoBounds fs = (int32_at range_field.start fs <ℤ pos 0)
    ⊎ (pos 65536 <ℤ int32_at range_field.end fs)
    ⊎ (int32_at range_field.end fs ≤ℤ int32_at range_field.start fs)
