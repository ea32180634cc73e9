-- The client's request, as that of a front proxy gives it (RFC 9110, sections 5.2, 5.3 and 7.2; RFC 7239, section 4).
use Rattle.std.specs.Prelude.{◌≡◌, ℕ, ◌<◌, Bool, true, false, not, Any, Option, Some, None, List, [], ◌∷◌, ◌++◌, codes, filter, length, map}
use Rattle.std.specs.List.{AllZip, list_all, list_any}
use Rattle.std.specs.Str.{bytes_eq}
use Rattle.std.specs.String.{string_bytes}
use Rattle.attributes.specs.Conn.{Facts, conn_view}
use Rattle.attributes.specs.Headers.{Entry, lines_view, values_of}
use Rattle.head_map.specs.declared.fact.MapFault.{MapFault}
use Rattle.head_map.specs.declared.fact.MapFault.TheVariants.{Doubled, Missing, Unreadable}
use Rattle.head_map.specs.declared.fact.NamedFact.{NamedFact}
use Rattle.head_map.specs.declared.mapping.Mapping.{Mapping}
use Rattle.head_map.specs.declared.parts.Parts.{Parts}
use Rattle.head_map.specs.Claims as claims
use Rattle.head_map.specs.Claims.{Claim, Reads}

-- a mapping: fields with what they hold, and the names of fields that have to be there
pub record MappingValue : Type 0 where
  pub named : List NamedFact
  pub required : List (List ℕ)

-- the mapping that a `Mapping` of the code means
abbrev pub mapping_view : Mapping → MappingValue
mapping_view m =
    record { named = m.named.items; required = map string_bytes m.required.items }

-- the mapping of no field
abbrev pub no_mapping : MappingValue
no_mapping = record { named = []; required = [] }

-- the parts of a request: its method, its target, its field lines and the facts of its connection
pub record PartsValue : Type 0 where
  pub method : List ℕ
  pub target : List ℕ
  pub lines : List Entry
  pub facts : Facts

-- the parts that a `Parts` of the code means
abbrev pub parts_view : Parts → PartsValue
parts_view p = record {
  method = string_bytes p.method;
  target = string_bytes p.target;
  lines = lines_view p.lines.items;
  facts = conn_view p.conn;
}

-- the client's request without its lines; a host, if a field says one
pub record ClientValue : Type 0 where
  pub method : List ℕ
  pub target : List ℕ
  pub host : Option (List ℕ)
  pub facts : Facts

-- the client, as the parts of a request give it
abbrev pub client_of : PartsValue → ClientValue
client_of p =
    record { method = p.method; target = p.target; host = None; facts = p.facts }

-- the client with other facts
abbrev pub with_facts : ClientValue → Facts → ClientValue
with_facts client facts = record client { facts = facts }

-- the client, after a field said this
abbrev pub put : Claim → ClientValue → ClientValue
put (claims.method text) client = record client { method = text }
put (claims.target text) client = record client { target = text }
put (claims.host text) client = record client { host = Some text }
put (claims.scheme text) client = with_facts client (record client.facts { scheme = text })
put (claims.remote_ip ip) client =
    with_facts client (record client.facts { remote_ip = Some ip })
put (claims.direct_remote_ip ip) client =
    with_facts client (record client.facts { direct_remote_ip = Some ip })
put (claims.source_port port) client =
    with_facts client (record client.facts { source_port = Some port })
put (claims.mtls is) client = with_facts client (record client.facts { mtls = Some is })
put (claims.requested_server_name text) client =
    with_facts client (record client.facts { requested_server_name = text })
put (claims.subject_peer_certificate text) client =
    with_facts client (record client.facts { subject_peer_certificate = text })
put (claims.dns_san_peer_certificate text) client =
    with_facts client (record client.facts { dns_san_peer_certificate = text })
put (claims.uri_san_peer_certificate text) client =
    with_facts client (record client.facts { uri_san_peer_certificate = text })

-- the client, after fields said these in order
abbrev pub put_all : List Claim → ClientValue → ClientValue
put_all [] client = client
put_all (claim ∷ more) client = put_all more (put claim client)

-- one of the fields has this name
abbrev pub is_named : List NamedFact → List ℕ → Bool
is_named named name = list_any (λ n. bytes_eq (string_bytes n.field) name) named

-- the lines of all other fields
abbrev pub other_lines : List NamedFact → List Entry → List Entry
other_lines named lines = filter (λ l. not (is_named named l.0)) lines

-- the lines with this host instead of theirs, if there is one
abbrev pub lines_with_host : Option (List ℕ) → List Entry → List Entry
lines_with_host None lines = lines
lines_with_host (Some host) lines =
    filter (λ l. not (bytes_eq l.0 (codes "host"))) lines ++ (codes "host", host) ∷ []

-- one of the lines has this name
abbrev pub is_present : List Entry → List ℕ → Bool
is_present lines name = list_any (λ l. bytes_eq l.0 name) lines

-- the field says this: exactly one line has its name, and the line's value says it
abbrev pub Says : List Entry → NamedFact → Claim → Type 0
Says lines named claim = (value : List ℕ)
    × (values_of (string_bytes named.field) lines ≡ value ∷ []) × Reads named.fact value claim

-- the client's parts, if the fields say these claims
abbrev pub mapped : MappingValue → List Claim → PartsValue → PartsValue
mapped m said old = let client = put_all said (client_of old) in record {
  method = client.method;
  target = client.target;
  lines = lines_with_host client.host (other_lines m.named old.lines);
  facts = client.facts;
}

-- `new` are the parts of the client's request, as those of the front give it
pub record IsMapped (m : MappingValue) (old new : PartsValue) : Type 0 where
  pub claims : List Claim
  pub say : AllZip (Says old.lines) m.named claims
  pub required : list_all (is_present old.lines) m.required ≡ true
  pub value : new ≡ mapped m claims old

-- the field says nothing: it is missing, doubled or unreadable
pub data SaysFault (lines : List Entry) (named : NamedFact) (fault : MapFault) : Type 0 where
  missing : values_of (string_bytes named.field) lines ≡ [] → fault ≡ Missing
      → SaysFault lines named fault
  doubled : 1 < length (values_of (string_bytes named.field) lines) → fault ≡ Doubled
      → SaysFault lines named fault
  unreadable : (value : List ℕ) → values_of (string_bytes named.field) lines ≡ value ∷ []
      → ((claim : Claim) → ¬ (Reads named.fact value claim)) → fault ≡ Unreadable
      → SaysFault lines named fault

-- the lines have this fault: a required field is missing, or a named field says nothing
pub data HasMapFault (m : MappingValue) (lines : List Entry) (fault : MapFault) : Type 0 where
  absent : list_all (is_present lines) m.required ≡ false → fault ≡ Missing
      → HasMapFault m lines fault
  silent : Any (λ named. SaysFault lines named fault) m.named → HasMapFault m lines fault
