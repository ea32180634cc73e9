-- Which fields, with what they hold, make a mapping (RFC 9110, sections 5.1 and 5.6.2).
use Rattle.std.specs.Prelude.{◌≡◌, ℕ, Bool, true, not, ◌&&◌, ◌==◌, List, [], ◌∷◌, ◌++◌, codes, map}
use Rattle.std.specs.Char.{is_ascii_uppercase}
use Rattle.std.specs.List.{list_all, list_any}
use Rattle.std.specs.Str.{bytes_eq}
use Rattle.std.specs.String.{string_bytes}
use Rattle.std.specs.declared.alloc.Global.{Global}
use Rattle.std.specs.declared.string.String.{String}
use Rattle.httparse.specs.Grammar.{is_token}
use Rattle.head_map.specs.declared.fact.Fact.{Fact}
use Rattle.head_map.specs.declared.fact.Fact.TheVariants as facts
use Rattle.head_map.specs.declared.fact.NamedFact.{NamedFact}
use Rattle.head_map.specs.declared.mapping.MappingFault.{MappingFault}
use Rattle.head_map.specs.declared.mapping.MappingFault.TheVariants as faults
use Rattle.head_map.specs.Mapped.{MappingValue}

-- the mapping by these fields and these required names
abbrev pub mapping_of : List NamedFact → List (String Global) → MappingValue
mapping_of named required = record { named = named; required = map string_bytes required }

-- a token without upper-case letters
abbrev pub is_name : List ℕ → Bool
is_name name = is_token name && not (list_any is_ascii_uppercase name)

-- the names of all fields
abbrev pub fields_of : MappingValue → List (List ℕ)
fields_of m = map (λ (one : NamedFact). string_bytes one.field) m.named ++ m.required

-- the name of what a field holds; both ways to hold the address of the request have one name
abbrev pub fact_name : Fact → List ℕ
fact_name facts.Method = codes "method"
fact_name facts.Target = codes "target"
fact_name facts.Host = codes "host"
fact_name facts.Scheme = codes "scheme"
fact_name facts.RemoteIp = codes "remote_ip"
fact_name (facts.ForwardedFor place) = codes "remote_ip"
fact_name facts.DirectRemoteIp = codes "direct_remote_ip"
fact_name facts.SourcePort = codes "source.port"
fact_name (facts.Mtls is) = codes "mtls"
fact_name facts.RequestedServerName = codes "requested_server_name"
fact_name facts.SubjectPeerCertificate = codes "subject_peer_certificate"
fact_name facts.DnsSanPeerCertificate = codes "dns_san_peer_certificate"
fact_name facts.UriSanPeerCertificate = codes "uri_san_peer_certificate"

-- the names of all that the fields hold
abbrev pub facts_of : List NamedFact → List (List ℕ)
facts_of named = map (λ (one : NamedFact). fact_name one.fact) named

-- no two of the names are the same
abbrev pub is_distinct : List (List ℕ) → Bool
is_distinct [] = true
is_distinct (name ∷ others) =
    not (list_any (λ other. bytes_eq other name) others) && is_distinct others

-- an address is not at place 0 from the right
abbrev pub has_place : Fact → Bool
has_place (facts.ForwardedFor place) = not (place == 0)
has_place _ = true

-- the mapping keeps the rule whose breach is this fault
abbrev pub keeps : MappingFault → MappingValue → Bool
keeps faults.BadName m = list_all is_name (fields_of m)
keeps faults.NamedTwice m = is_distinct (fields_of m)
keeps faults.ClaimedTwice m = is_distinct (facts_of m.named)
keeps faults.NoPlace m = list_all (λ (one : NamedFact). has_place one.fact) m.named

-- a mapping keeps all rules
abbrev pub IsMapping : MappingValue → Type 0
IsMapping m = (fault : MappingFault) → keeps fault m ≡ true
