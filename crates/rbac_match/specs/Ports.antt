-- Ports and ranges of them: Envoy v3 `config/rbac/v3/rbac.proto` (`destination_port`,
-- `destination_port_range`), `type/v3/range.proto` (Int32Range: start is in, end is not).
use Rattle.std.specs.Prelude.{◌≡◌, ℕ, pos, ◌<◌, ◌≤◌, List}
use Rattle.std.specs.declared.ops.Range.{Range}
use Rattle.proto_wire.specs.Reading.{Reads, ReadFault, Never}
use Rattle.proto_wire.specs.Values.{uint32_at, int32_at}
use Rattle.proto_wire.specs.Fields.{Wire}
use Rattle.proto_wire.specs.declared.refusal.Refusal.{Refusal}
use Rattle.proto_wire.specs.declared.refusal.Refusal.TheVariants.{OutOfRange}
use Rattle.rbac_match.specs.Message.{range_field, range_keys}

-- the run of a permission's `destination_port`, which has this number, means this port
abbrev pub IsDestinationPort : ℕ → List Wire → ℕ → Type 0
IsDestinationPort n run port = (port ≡ uint32_at n run) × (port ≤ 65535)

-- the run has a number that is no port
abbrev pub PortFault : ℕ → List Wire → Refusal → Type 0
PortFault n run e = (65535 < uint32_at n run) × (e ≡ OutOfRange)

-- the bounds in the fields are those of these ports: there is at least one, and each is from 0 to 65,535
abbrev pub AreBounds : List Wire → Range ℕ → Type 0
AreBounds fs span = (int32_at range_field.start fs ≡ pos span.start)
    × (int32_at range_field.end fs ≡ pos span.end) × (span.start < span.end) × (span.end ≤ 65536)

-- the parts merge to an Int32Range of these ports
abbrev pub IsPortRange : List (List ℕ) → Range ℕ → Type 0
IsPortRange = Reads range_keys AreBounds

-- a fault of an Int32Range of ports: in its fields, or in its bounds
abbrev pub PortRangeFault : List (List ℕ) → Refusal → Type 0
PortRangeFault = ReadFault range_keys Never
    (λ fs e. ((span : Range ℕ) → ¬ (AreBounds fs span)) × (e ≡ OutOfRange))
