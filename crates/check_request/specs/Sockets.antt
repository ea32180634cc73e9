-- The ends of a connection: Envoy v3 `config/core/v3/address.proto` (Address, SocketAddress).
use Rattle.std.specs.Prelude.{◌≡◌, ℕ, ◌<◌, ◌^◌, Some, Option, List, ◌++◌, IsUtf8, codes, decimal, if◌then◌else◌}
use Rattle.attributes.specs.Address.{IsIpText, has_dot, unmapped}
use Rattle.attributes.specs.declared.address.Ip.{Ip}
use Rattle.proto_wire.specs.Fields.{Wire}
use Rattle.proto_wire.specs.Merge.{Merges}
use Rattle.proto_wire.specs.Oneof.{last_number, member_run}
use Rattle.proto_wire.specs.Reading.{IsOptional}
use Rattle.proto_wire.specs.Values.{bytes_at, uint32_at}
use Rattle.check_request.specs.Numbers.{Inner, address_field, address_keys, peer_field, port_keys, socket_field}

-- an end of the connection: its address as text and in its one form, and its port
pub record SocketValue : Type 0 where
  pub host : List ℕ
  pub ip : Ip
  pub port : ℕ

-- the text spells this address, in its one form: one of IPv4, if it is written as one of IPv6
abbrev pub Spells : List ℕ → Ip → Type 0
Spells text ip = (spelled : Ip) × IsIpText text spelled × (ip ≡ unmapped spelled)

-- the fields of a SocketAddress mean this end. Its port is a number below 65,536
pub record IsSocket (fs : List Wire) (s : SocketValue) : Type 0 where
  pub host : s.host ≡ bytes_at socket_field.address fs
  pub utf8 : IsUtf8 s.host
  pub ip : Spells s.host s.ip
  pub numbered : last_number port_keys fs ≡ Some socket_field.port_value
  pub port : s.port ≡ uint32_at socket_field.port_value fs
  pub fits : s.port < 2 ^ 16

-- the payloads merge to a SocketAddress that means this end
abbrev pub AreSocket : List (List ℕ) → SocketValue → Type 0
AreSocket parts s = (fs : List Wire) × Merges parts fs × IsSocket fs s

-- the fields of a Peer mean this end; none if its address is absent or no SocketAddress
abbrev pub IsEnd : List Wire → Option SocketValue → Type 0
IsEnd peer end = (address : List Wire) × Inner peer_field.address peer address
    × IsOptional AreSocket address_field.socket_address (member_run address_keys address) end

-- an address with brackets, if it is written as one of IPv6
abbrev pub bracketed : List ℕ → List ℕ
bracketed host = if has_dot host then host else codes "[" ++ host ++ codes "]"

-- the end as Envoy writes it in `source.address`: `IP:PORT`
abbrev pub address_text : SocketValue → List ℕ
address_text s = bracketed s.host ++ codes ":" ++ decimal s.port
