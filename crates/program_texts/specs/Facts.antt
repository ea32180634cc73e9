-- The facts of a connection as a JSON object: RFC 8259 section 4; the names are those of Envoy, "Attributes".
use Rattle.std.specs.Prelude.{◌≡◌, ◌≢◌, ◌⊎◌, ℕ, ◌^◌, ◌<◌, List, Bool, Option, Some, None, codes, length, unwrap_or, IsUtf8}
use Rattle.attributes.specs.Address.{IsIpText, unmapped}
use Rattle.attributes.specs.Conn.{Facts, server_name}
use Rattle.attributes.specs.Limits.{FactsInLimits, largest}
use Rattle.attributes.specs.declared.address.Ip.{Ip}
use Rattle.serde_json.specs.Data.{Data, boolean, number, unsigned, string, object, Members, no_members, member}
use Rattle.serde_json.specs.Find.{get}
use Rattle.serde_json.specs.Read.{read}
use Rattle.program_texts.specs.declared.fact.Fact.{Fact}
use Rattle.program_texts.specs.declared.fact.Fact.TheVariants.{SourceAddress, SourcePort, DestinationAddress, DestinationPort, ConnectionMtls, ConnectionId, ConnectionRequestedServerName, ConnectionTlsVersion, ConnectionSubjectPeerCertificate, ConnectionDnsSanPeerCertificate, ConnectionUriSanPeerCertificate, DirectRemoteIp, RemoteIp, DestinationIp, RequestScheme}
use Rattle.program_texts.specs.declared.fact_fault.FactFault.{FactFault}
use Rattle.program_texts.specs.declared.fact_fault.FactFault.TheVariants.{NoObject, NoFact, NotOfKind, TooLong}
use Rattle.program_texts.specs.declared.facts.FactsFault.{FactsFault}
use Rattle.program_texts.specs.declared.facts.FactsFault.TheVariants.{Bad, Memory}

-- the text of a fault
abbrev pub fault_text : FactsFault → List ℕ
fault_text Bad = codes "bad facts"
fault_text Memory = codes "memory"

-- the value is this text
abbrev pub IsText : Data → List ℕ → Type 0
IsText d text = d ≡ string text

-- the value is this port
abbrev pub IsPortNumber : Data → ℕ → Type 0
IsPortNumber d port = (d ≡ number (unsigned port)) × (port < 2 ^ 16)

-- the value is this unsigned integer
abbrev pub IsNumber : Data → ℕ → Type 0
IsNumber d n = d ≡ number (unsigned n)

-- the value is this Boolean
abbrev pub IsAnswer : Data → Bool → Type 0
IsAnswer d b = d ≡ boolean b

-- the value is a text that spells this address, which is in its one form: of IPv4, if it is written as one of IPv6
abbrev pub IsAddress : Data → Ip → Type 0
IsAddress d ip =
    (text : List ℕ) × (d ≡ string text) × ((spelled : Ip) × IsIpText text spelled × (ip ≡ unmapped spelled))

-- the value is the name of this server, in any case
abbrev pub IsServerName : Data → List ℕ → Type 0
IsServerName d name = (text : List ℕ) × (d ≡ string text) × (name ≡ server_name text)

-- the fact and a value for it are both absent; or both are present, and the value means the fact
abbrev pub BothOrNone : {A : Type 0} → (Data → A → Type 0) → Option Data → Option A → Type 0
BothOrNone Means None None = Unit {0}
BothOrNone Means None (Some a) = ⊥
BothOrNone Means (Some d) None = ⊥
BothOrNone Means (Some d) (Some a) = Means d a

-- the value is this scheme; if there is no value, the scheme is `http`
abbrev pub IsScheme : Option Data → List ℕ → Type 0
IsScheme d scheme = (named : Option (List ℕ)) × BothOrNone IsText d named × (scheme ≡ unwrap_or named (codes "http"))

-- each fact's name, and what the member of that name, or its absence, means for the facts
abbrev pub fact_row : Fact → List ℕ × (Option Data → Facts → Type 0)
fact_row SourceAddress = (codes "source.address", λ d f. BothOrNone IsText d f.source_address)
fact_row SourcePort = (codes "source.port", λ d f. BothOrNone IsPortNumber d f.source_port)
fact_row DestinationAddress = (codes "destination.address", λ d f. BothOrNone IsText d f.destination_address)
fact_row DestinationPort = (codes "destination.port", λ d f. BothOrNone IsPortNumber d f.destination_port)
fact_row ConnectionMtls = (codes "connection.mtls", λ d f. BothOrNone IsAnswer d f.mtls)
fact_row ConnectionId = (codes "connection.id", λ d f. BothOrNone IsNumber d f.connection_id)
fact_row ConnectionRequestedServerName =
    (codes "connection.requested_server_name", λ d f. BothOrNone IsServerName d f.requested_server_name)
fact_row ConnectionTlsVersion = (codes "connection.tls_version", λ d f. BothOrNone IsText d f.tls_version)
fact_row ConnectionSubjectPeerCertificate =
    (codes "connection.subject_peer_certificate", λ d f. BothOrNone IsText d f.subject_peer_certificate)
fact_row ConnectionDnsSanPeerCertificate =
    (codes "connection.dns_san_peer_certificate", λ d f. BothOrNone IsText d f.dns_san_peer_certificate)
fact_row ConnectionUriSanPeerCertificate =
    (codes "connection.uri_san_peer_certificate", λ d f. BothOrNone IsText d f.uri_san_peer_certificate)
fact_row DirectRemoteIp = (codes "direct_remote_ip", λ d f. BothOrNone IsAddress d f.direct_remote_ip)
fact_row RemoteIp = (codes "remote_ip", λ d f. BothOrNone IsAddress d f.remote_ip)
fact_row DestinationIp = (codes "destination_ip", λ d f. BothOrNone IsAddress d f.destination_ip)
fact_row RequestScheme = (codes "request.scheme", λ d f. IsScheme d f.scheme)

-- the name of a fact
abbrev pub name_of : Fact → List ℕ
name_of fact = (fact_row fact).0

-- the name is that of a fact
abbrev pub IsFactName : List ℕ → Type 0
IsFactName name = (fact : Fact) × (name ≡ name_of fact)

-- each member has the name of a fact
abbrev pub AreNamed : Members → Type 0
AreNamed no_members = Unit {0}
AreNamed (member name d ms) = IsFactName name × AreNamed ms

-- the value is an object, and each of its names is that of a fact
abbrev pub HasFactNames : Data → Type 0
HasFactNames d = (ms : Members) × (d ≡ object ms) × AreNamed ms

-- the object means these facts: its members have names of facts, and each fact is what the member of its name means
pub record AreFacts (d : Data) (f : Facts) : Type 0 where
  pub names : HasFactNames d
  pub reports : (fact : Fact) → (fact_row fact).1 (get (name_of fact) d) f

-- the bytes are the text of a JSON object that means these facts
abbrev pub IsFactsText : List ℕ → Facts → Type 0
IsFactsText text f = IsUtf8 text × ((d : Data) × (read text ≡ Some d) × AreFacts d f)

-- the bytes mean no facts, or facts that are outside the limits
abbrev pub MeansNoFacts : List ℕ → Type 0
MeansNoFacts text = ((f : Facts) → ¬ IsFactsText text f)
    ⊎ ((f : Facts) × IsFactsText text f × ¬ FactsInLimits f largest)

-- a member has this name
abbrev pub HasMember : List ℕ → Members → Type 0
HasMember name no_members = ⊥
HasMember name (member own d ms) = (own ≡ name) ⊎ HasMember name ms

-- why the value means no facts. It is no object, or a member has the fault: no fact has its name, or its fact cannot have
-- its value
abbrev pub HasFactFault : Data → FactFault → Type 0
HasFactFault d NoObject = (ms : Members) → d ≢ object ms
HasFactFault d (NoFact name) = (ms : Members) × (d ≡ object ms) × HasMember name.now ms × ¬ IsFactName name.now
HasFactFault d (NotOfKind fact) =
    (v : Data) × (get (name_of fact) d ≡ Some v) × ((f : Facts) → ¬ (fact_row fact).1 (Some v) f)
HasFactFault d (TooLong fact count) = ⊥

-- the text of a fact, if it is a text that is known
abbrev pub text_of : Fact → Facts → Option (List ℕ)
text_of SourceAddress f = f.source_address
text_of DestinationAddress f = f.destination_address
text_of ConnectionRequestedServerName f = f.requested_server_name
text_of ConnectionTlsVersion f = f.tls_version
text_of ConnectionSubjectPeerCertificate f = f.subject_peer_certificate
text_of ConnectionDnsSanPeerCertificate f = f.dns_san_peer_certificate
text_of ConnectionUriSanPeerCertificate f = f.uri_san_peer_certificate
text_of RequestScheme f = Some f.scheme
text_of _ f = None

-- the text of this fact is above the limit, and has as many bytes as the fault says
abbrev pub IsLong : Fact → Option (List ℕ) → FactFault → Type 0
IsLong fact text e =
    (bytes : List ℕ) × (text ≡ Some bytes) × (largest.text < length bytes) × (e ≡ TooLong fact (length bytes))

-- the fault is that of a fact whose text is above the limit
abbrev pub HasLongText : Facts → FactFault → Type 0
HasLongText f e = (fact : Fact) × IsLong fact (text_of fact f) e

-- why the value means no facts within the limits
abbrev pub MeansNone : Data → FactFault → Type 0
MeansNone d e = HasFactFault d e ⊎ ((f : Facts) × AreFacts d f × HasLongText f e)
