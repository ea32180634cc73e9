-- The facts of a connection as a program in C gives them (this project's own): which facts they are.
use Rattle.std.specs.Prelude.{ℕ, zero, suc, ℤ, pos, negsuc, ⊤, ◌≡◌, ◌⊎◌, ◌==◌, ◌≤◌, ◌<◌, ◌^◌, nat_lt, Bool, true, false, Option, Some, None, List, [], ◌∷◌, length, option_map, IfSome, if◌then◌else◌}
use Rattle.std.specs.Int.{from_be_bytes, w32, w128}
use Rattle.std.specs.List.{AllByRecursion}
use Rattle.std.specs.Str.{IsUtf8}
use Rattle.attributes.specs.Address.{unmapped}
use Rattle.attributes.specs.Conn.{Facts, server_name}
use Rattle.attributes.specs.declared.address.Ip.{Ip}
use Rattle.attributes.specs.declared.address.Ip.TheVariants.{V4, V6}
use Rattle.c_inputs.specs.declared.facts.Text.{Text}
use Rattle.c_inputs.specs.declared.facts.FactsFault.{FactsFault}
use Rattle.c_inputs.specs.declared.facts.FactsFault.TheVariants.{Memory, NoText, OutOfRange}
use Rattle.c_inputs.specs.declared.facts.FactsInput.{FactsInput}

-- the bytes of a text, if it is there
abbrev pub text_given : Text → Option (List ℕ)
text_given t = if t.is_there then Some t.bytes.now else None

-- a port, if the number is one
abbrev pub port_given : ℤ → Option ℕ
port_given (pos n) = if nat_lt n 65536 then Some n else None
port_given (negsuc n) = None

-- yes or no, if the number is 0 or more
abbrev pub flag_given : ℤ → Option Bool
flag_given (pos zero) = Some false
flag_given (pos (suc n)) = Some true
flag_given (negsuc n) = None

-- an address of 4 or 16 bytes, the highest first, in its one form; any other number of bytes is no address
abbrev pub address_given : List ℕ → Option Ip
address_given bytes = if length bytes == 4 then Some (V4 (from_be_bytes w32 bytes))
    else (if length bytes == 16 then Some (unmapped (V6 (from_be_bytes w128 bytes))) else None)

-- the facts of a connection that are given. The name of the server is in its one form, and so is each address
abbrev pub facts_given : FactsInput → Facts
facts_given f = record {
  source_address = text_given f.source_address;
  source_port = port_given f.source_port;
  destination_address = text_given f.destination_address;
  destination_port = port_given f.destination_port;
  mtls = flag_given f.mtls;
  connection_id = if f.has_connection_id then Some f.connection_id else None;
  requested_server_name = option_map server_name (text_given f.requested_server_name);
  tls_version = text_given f.tls_version;
  subject_peer_certificate = text_given f.subject_peer_certificate;
  dns_san_peer_certificate = text_given f.dns_san_peer_certificate;
  uri_san_peer_certificate = text_given f.uri_san_peer_certificate;
  direct_remote_ip = address_given f.direct_remote_ip.now;
  remote_ip = address_given f.remote_ip.now;
  destination_ip = address_given f.destination_ip.now;
  scheme = f.scheme.now;
}

-- UTF-8 of at most 65,536 bytes
abbrev pub IsText : List ℕ → Type 0
IsText bytes = IsUtf8 bytes × (length bytes ≤ 65536)

-- the texts that are given
abbrev pub texts_given : FactsInput → List (Option (List ℕ))
texts_given f =
    text_given f.source_address ∷ text_given f.destination_address ∷ text_given f.requested_server_name
    ∷ text_given f.tls_version ∷ text_given f.subject_peer_certificate ∷ text_given f.dns_san_peer_certificate
    ∷ text_given f.uri_san_peer_certificate ∷ Some f.scheme.now ∷ []

-- each text that is given is such a text
abbrev pub AreTexts : FactsInput → Type 0
AreTexts f = AllByRecursion (λ text. IfSome text IsText) (texts_given f)

-- the number is below 0, or a port: it has 16 bits
abbrev pub IsPortInput : ℤ → Type 0
IsPortInput (pos n) = n < 2 ^ 16
IsPortInput (negsuc n) = ⊤

-- there are no bytes, or those of an address
abbrev pub IsAddressInput : List ℕ → Type 0
IsAddressInput bytes = (length bytes ≡ 0) ⊎ (length bytes ≡ 4) ⊎ (length bytes ≡ 16)

-- each port and each address is one, or absent
pub record AreInRange (f : FactsInput) : Type 0 where
  pub source_port : IsPortInput f.source_port
  pub destination_port : IsPortInput f.destination_port
  pub direct_remote_ip : IsAddressInput f.direct_remote_ip.now
  pub remote_ip : IsAddressInput f.remote_ip.now
  pub destination_ip : IsAddressInput f.destination_ip.now

-- the facts are those of a connection: each text is one, and so is each port and each address
abbrev pub AreAccepted : FactsInput → Type 0
AreAccepted f = AreTexts f × AreInRange f

-- out of memory, or a text is at fault, as P says
abbrev pub MemoryOr : Type 0 → FactsFault → Type 0
MemoryOr P e = (e ≡ Memory) ⊎ ((e ≡ NoText) × P)

-- why the facts are those of no connection: a text is at fault, or a port or an address. Or memory ran out
abbrev pub FactsFail : FactsInput → FactsFault → Type 0
FactsFail f NoText = AreTexts f → ⊥
FactsFail f OutOfRange = AreInRange f → ⊥
FactsFail f Memory = ⊤
