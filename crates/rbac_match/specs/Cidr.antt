-- Ranges of addresses: Envoy v3 `config/core/v3/address.proto` (CidrRange), `google/protobuf/wrappers.proto`
-- (UInt32Value). What they mean for a request: Envoy RBAC, "Permission" and "Principal" (`destination_ip`,
-- `direct_remote_ip`, `remote_ip`).
use Rattle.std.specs.Prelude.{◌≡◌, ◌⊎◌, ℕ, ◌<◌, ◌≤◌, List, [], ◌∷◌, Option, IsUtf8}
use Rattle.attributes.specs.Address.{IsIpText, Range, width_of}
use Rattle.attributes.specs.Conn.{Facts}
use Rattle.attributes.specs.declared.address.Ip.{Ip}
use Rattle.proto_wire.specs.Reading.{ReadFault, Never}
use Rattle.proto_wire.specs.Values.{bytes_at, uint32_at, payloads, Utf8Fault}
use Rattle.proto_wire.specs.Fields.{Wire}
use Rattle.proto_wire.specs.Merge.{Merges}
use Rattle.proto_wire.specs.Messages.{IsMessage, MessageFault}
use Rattle.proto_wire.specs.declared.refusal.Refusal.{Refusal}
use Rattle.proto_wire.specs.declared.refusal.Refusal.TheVariants.{OutOfRange}
use Rattle.proto_wire.specs.declared.key.Key.{Key}
use Rattle.proto_wire.specs.Keys.{len_key, varint_key}
use Rattle.rbac_match.specs.declared.cidr.AddressSource.{AddressSource}
use Rattle.rbac_match.specs.declared.cidr.AddressSource.TheVariants.{Destination, DirectRemote, Remote}

-- the numbers of the fields of a CidrRange (`config.core.v3.CidrRange`): an address, and how many
-- of its first bits count
abbrev pub cidr_field : record { address_prefix : ℕ; prefix_len : ℕ }
cidr_field = record { address_prefix = 1; prefix_len = 2 }

-- the fields of a CidrRange
abbrev pub cidr_keys : List Key
cidr_keys = len_key cidr_field.address_prefix ∷ len_key cidr_field.prefix_len ∷ []

-- the number of the field of a UInt32Value (`google.protobuf.UInt32Value`)
abbrev pub uint32_field : record { value : ℕ }
uint32_field = record { value = 1 }

-- the fields of a UInt32Value
abbrev pub uint32_keys : List Key
uint32_keys = varint_key uint32_field.value ∷ []

-- the parts merge to a UInt32Value of this value; without parts, the value is 0
abbrev pub IsUint32 : List (List ℕ) → ℕ → Type 0
IsUint32 parts n = (fs : List Wire) × IsMessage uint32_keys parts fs
    × (n ≡ uint32_at uint32_field.value fs)

-- the parts merge to a CidrRange of these addresses
abbrev pub IsCidr : List (List ℕ) → Range → Type 0
IsCidr parts range = (fs : List Wire) × IsMessage cidr_keys parts fs
    × IsUtf8 (bytes_at cidr_field.address_prefix fs)
    × IsIpText (bytes_at cidr_field.address_prefix fs) range.address
    × IsUint32 (payloads cidr_field.prefix_len fs) range.prefix_len
    × (range.prefix_len ≤ width_of range.address)

-- the bytes are not UTF-8, or spell no address
abbrev pub AddressFault : List ℕ → Refusal → Type 0
AddressFault bytes e = Utf8Fault bytes e
    ⊎ ((e ≡ OutOfRange) × IsUtf8 bytes × ((ip : Ip) → ¬ IsIpText bytes ip))

-- a fault of a CidrRange's address or of its length, or a length of more bits than the address has
pub data CidrWrong (fs : List Wire) (e : Refusal) : Type 0 where
  in_address : AddressFault (bytes_at cidr_field.address_prefix fs) e → CidrWrong fs e
  in_length : MessageFault uint32_keys (payloads cidr_field.prefix_len fs) e → CidrWrong fs e
  too_long : (ls : List Wire) (ip : Ip) → IsIpText (bytes_at cidr_field.address_prefix fs) ip
      → Merges (payloads cidr_field.prefix_len fs) ls
      → width_of ip < uint32_at uint32_field.value ls → e ≡ OutOfRange → CidrWrong fs e

-- a fault of a CidrRange
abbrev pub CidrFault : List (List ℕ) → Refusal → Type 0
CidrFault = ReadFault cidr_keys Never CidrWrong

-- the address of the connection that the rule tests
abbrev pub source_ip : AddressSource → Facts → Option Ip
source_ip Destination facts = facts.destination_ip
source_ip DirectRemote facts = facts.direct_remote_ip
source_ip Remote facts = facts.remote_ip
