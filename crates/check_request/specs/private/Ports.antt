-- The port of a SocketAddress.
use Rattle.std.specs.Prelude.{◌≡◌, ℕ, ◌<◌, ◌^◌, Some, List}
use Rattle.proto_wire.specs.Fields.{Wire}
use Rattle.proto_wire.specs.Oneof.{last_number}
use Rattle.proto_wire.specs.Values.{uint32_at}
use Rattle.check_request.specs.Numbers.{port_keys, socket_field}

-- the fields of a SocketAddress have this port, by number
abbrev pub IsPort : List Wire → ℕ → Type 0
IsPort fs port = (last_number port_keys fs ≡ Some socket_field.port_value)
    × (port ≡ uint32_at socket_field.port_value fs) × (port < 2 ^ 16)
