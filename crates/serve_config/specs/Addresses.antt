-- The addresses of a configuration.
use Rattle.std.specs.Prelude.{◌≡◌, ◌≢◌, ◌<◌, ◌≤◌, ◌⊎◌, ◌++◌, ℕ, ℤ, pos, List, [], ◌∷◌, codes, length, slice_index, string_bytes}
use Rattle.std.specs.List.{AllZip}
use Rattle.std.specs.Str.Parse.{IsNumeral, digits_value}
use Rattle.std.specs.Net.Addr.{ipv4_octets}
use Rattle.std.specs.Net.Grammar.{IsSocketText}
use Rattle.std.specs.Net.Socket.{socket_ip, socket_port}
use Rattle.std.specs.declared.net.ip_addr.IpAddr.TheVariants as ips
use Rattle.std.specs.declared.net.ipv4_addr.Ipv4Addr.{Ipv4Addr}
use Rattle.std.specs.declared.net.socket_addr.SocketAddr.{SocketAddr}
use Rattle.serde_json.specs.Data.{Data, array, number, string, unsigned}
use Rattle.serde_json.specs.View.{items_of}
use Rattle.serve_config.specs.Members.{IsPath}
use Rattle.serve_config.specs.declared.address.Address.{Address}
use Rattle.serve_config.specs.declared.address.Address.TheVariants as addresses
use Rattle.serve_config.specs.declared.address.ControlAddress.{ControlAddress}
use Rattle.serve_config.specs.declared.address.ControlAddress.TheVariants as planes

-- a path of a Unix socket. Linux has 108 bytes for it and a NUL at its end (unix(7)). The socket is made at a path of 6
-- more
abbrev pub IsUnixPath : List ℕ → Type 0
IsUnixPath path = IsPath path × (length path ≤ 101)

-- digits, the first of which is not 0, of a number from 3 to 1023
abbrev pub IsDescriptor : List ℕ → ℤ → Type 0
IsDescriptor digits n = IsNumeral 10 digits × (slice_index digits 0 ≢ 48) × (n ≡ pos (digits_value 10 digits))
    × (3 ≤ digits_value 10 digits) × (digits_value 10 digits ≤ 1023)

-- the text of an address at which a server listens
abbrev pub IsAddress : List ℕ → Address → Type 0
IsAddress text (addresses.Tcp a) = IsSocketText text a
IsAddress text (addresses.Unix path) =
    (text ≡ codes "unix:" ++ string_bytes path) × IsUnixPath (string_bytes path)
IsAddress text (addresses.Descriptor n) =
    (digits : List ℕ) × (text ≡ codes "fd:" ++ digits) × IsDescriptor digits n

-- the text of the address of a control plane; its port is not 0
abbrev pub IsControlAddress : List ℕ → ControlAddress → Type 0
IsControlAddress text (planes.Tcp a) = IsSocketText text a × (0 < socket_port a)
IsControlAddress text (planes.Unix path) =
    (text ≡ codes "unix:" ++ string_bytes path) × IsUnixPath (string_bytes path)
IsControlAddress text (planes.File path) =
    (text ≡ codes "file:" ++ string_bytes path) × IsPath (string_bytes path)
IsControlAddress text (planes.GrpcTcp a) =
    (rest : List ℕ) × (text ≡ codes "grpc://" ++ rest) × IsSocketText rest a × (0 < socket_port a)
IsControlAddress text (planes.GrpcUnix path) =
    (text ≡ codes "grpc+unix:" ++ string_bytes path) × IsUnixPath (string_bytes path)

-- the value is a text that spells this address
abbrev pub IsAddressText : Data → Address → Type 0
IsAddressText d a = (text : List ℕ) × (d ≡ string text) × IsAddress text a

-- the value is the text of one address, or an array of 1 to 16 texts, each of which is the address at its place
abbrev pub AreAddresses : Data → List Address → Type 0
AreAddresses d found = ((a : Address) × (found ≡ a ∷ []) × IsAddressText d a)
    ⊎ ((ds : List Data) × (d ≡ array (items_of ds)) × (0 < length ds) × (length ds ≤ 16)
    × AllZip IsAddressText ds found)

-- the value is a text that spells the address of this control plane
abbrev pub IsControlText : Data → ControlAddress → Type 0
IsControlText d a = (text : List ℕ) × (d ≡ string text) × IsControlAddress text a

-- a port of the loopback address of IPv4, 127.0.0.1
abbrev pub IsLocalPort : ℕ → SocketAddr → Type 0
IsLocalPort port a = (socket_port a ≡ port)
    × ((ip : Ipv4Addr) × (socket_ip a ≡ ips.V4 ip) × (ipv4_octets ip ≡ 127 ∷ 0 ∷ 0 ∷ 1 ∷ []))

-- the value is the text of this address, or a number, which is its port at 127.0.0.1
abbrev pub IsAdmin : Data → SocketAddr → Type 0
IsAdmin d a = ((text : List ℕ) × (d ≡ string text) × IsSocketText text a)
    ⊎ ((port : ℕ) × (d ≡ number (unsigned port)) × IsLocalPort port a)
