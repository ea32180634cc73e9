-- What is known of a server's connections (this project's own; docs/REFERENCE.md, "Facts of the peer").
use Rattle.std.specs.Prelude.{◌≡◌, ℕ, List, [], ◌∷◌, Option, Some, None, IsSome}
use Rattle.std.specs.Net.Addr.{ipv4_bits, ipv6_bits}
use Rattle.std.specs.Net.Socket.{socket_ip, socket_port}
use Rattle.std.specs.declared.net.ip_addr.IpAddr.{IpAddr}
use Rattle.std.specs.declared.net.ip_addr.IpAddr.TheVariants as addresses
use Rattle.std.specs.declared.net.socket_addr.SocketAddr.{SocketAddr}
use Rattle.attributes.specs.Address.{unmapped}
use Rattle.attributes.specs.Conn.{Facts, conn_view}
use Rattle.attributes.specs.declared.address.Ip.{Ip}
use Rattle.attributes.specs.declared.address.Ip.TheVariants as numbers
use Rattle.serve_core.specs.Turns.{ServerEvent, ServerFacts, ServerStep}
use Rattle.serve_loop.specs.History.{accepted, closed, connected, drain, event, received, sent}
use Rattle.serve_loop.specs.Events.{event_view}
use Rattle.serve_trace.specs.declared.Note.{Note}
use Rattle.serve_trace.specs.declared.Note.TheVariants as notes

-- an address as a number
abbrev pub number_of : IpAddr → Ip
number_of (addresses.V4 a) = numbers.V4 (ipv4_bits a)
number_of (addresses.V6 a) = numbers.V6 (ipv6_bits a)

-- facts, with the end that the connection comes from as these others have it
abbrev pub with_source : Facts → Facts → Facts
with_source facts other = record facts {
  source_address = other.source_address;
  source_port = other.source_port;
  direct_remote_ip = other.direct_remote_ip;
}

-- facts, with the end that it goes to as these others have it
abbrev pub with_destination : Facts → Facts → Facts
with_destination facts other = record facts {
  destination_address = other.destination_address;
  destination_port = other.destination_port;
  destination_ip = other.destination_ip;
}

-- an end with this address has a text, this port, and this number in one form
abbrev pub IsAt : SocketAddr → Option (List ℕ) → Option ℕ → Option Ip → Type 0
IsAt address text port ip = IsSome text × (port ≡ Some (socket_port address))
    × (ip ≡ Some (unmapped (number_of (socket_ip address))))

-- the connection comes from this address, and nothing else changes. At a socket without addresses nothing does
abbrev pub IsSource : Option SocketAddr → Facts → Facts → Type 0
IsSource None old new = new ≡ old
IsSource (Some address) old new =
    IsAt address new.source_address new.source_port new.direct_remote_ip × (new ≡ with_source old new)

-- it goes to this address
abbrev pub IsDestination : Option SocketAddr → Facts → Facts → Type 0
IsDestination None old new = new ≡ old
IsDestination (Some address) old new =
    IsAt address new.destination_address new.destination_port new.destination_ip × (new ≡ with_destination old new)

-- the facts of a connection with these addresses of its ends, of which this is known before: the same beside its addresses
abbrev pub HasEnds : Facts → Option SocketAddr → Option SocketAddr → Facts → Type 0
HasEnds known peer local facts = (begun : Facts) × IsSource peer known begun × IsDestination local begun facts

-- the facts of this connection are so
abbrev pub AreFactsAt : Facts → Option SocketAddr → Option SocketAddr → ServerFacts → Type 0
AreFactsAt known peer local conn = HasEnds known peer local (conn_view conn)

-- the facts of a connection are known, beside its addresses: those of two sockets, or none
abbrev pub AreKnownFacts : Facts → ServerFacts → Type 0
AreKnownFacts known conn = (peer : Option SocketAddr) × (local : Option SocketAddr) × AreFactsAt known peer local conn

-- the event is no connection, or one whose facts are known
abbrev pub IsKnownEvent : Facts → ServerEvent → Type 0
IsKnownEvent known (accepted k conn) = AreKnownFacts known conn
IsKnownEvent known connected = Unit {0}
IsKnownEvent known (received s bytes) = Unit {0}
IsKnownEvent known (closed s) = Unit {0}
IsKnownEvent known drain = Unit {0}

-- each connection that was accepted has the facts that are known of all, beside its addresses
abbrev pub HasKnownFacts : Facts → List ServerStep → Type 0
HasKnownFacts known [] = Unit {0}
HasKnownFacts known (event e ∷ wire) = IsKnownEvent known e × HasKnownFacts known wire
HasKnownFacts known (sent s bytes ∷ wire) = HasKnownFacts known wire

-- the note is of no connection, or of one whose facts are known
abbrev pub IsKnownNote : Facts → Note ServerFacts → Type 0
IsKnownNote known (notes.Took e) = IsKnownEvent known (event_view e.now)
IsKnownNote known (notes.Answered e out closes) = IsKnownEvent known (event_view e.now)
IsKnownNote known (notes.Sent s bytes) = Unit {0}
