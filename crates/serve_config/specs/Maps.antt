-- Which fields of a front proxy hold the request of its client, and which paths are judged, by the members of a JSON object.
use Rattle.std.specs.Prelude.{◌≡◌, ℕ, List, [], ◌∷◌, Option, Some, None, IfSome, codes, filter_map, map, option_map, string_bytes}
use Rattle.std.specs.List.{AllZip}
use Rattle.std.specs.declared.alloc.Global.{Global}
use Rattle.std.specs.declared.string.String.{String}
use Rattle.serde_json.specs.Data.{Data, array, string}
use Rattle.serde_json.specs.Find.{get}
use Rattle.serde_json.specs.View.{items_of}
use Rattle.program_texts.specs.Members.{HasOnly}
use Rattle.head_map.specs.declared.fact.Fact.{Fact}
use Rattle.head_map.specs.declared.fact.Fact.TheVariants as facts
use Rattle.head_map.specs.declared.fact.NamedFact.{NamedFact}
use Rattle.head_map.specs.declared.mapping.Mapping.{Mapping}
use Rattle.head_map.specs.Mapped.{MappingValue, mapping_view}
use Rattle.head_map.specs.Mappings.{IsMapping, fact_name}
use Rattle.serve_config.specs.Members.{IsNumberFrom, member_of}
use Rattle.serve_config.specs.declared.config.Paths.{Paths}
use Rattle.serve_config.specs.declared.config.Paths.TheVariants.{AsSent, Strict}
use Rattle.serve_config.specs.declared.map.Member.{Member}
use Rattle.serve_config.specs.declared.map.Member.TheVariants as members

-- the name of a member of `map`
abbrev pub member_name : Member → List ℕ
member_name members.Method = codes "method"
member_name members.Target = codes "target"
member_name members.Host = codes "host"
member_name members.Scheme = codes "scheme"
member_name members.RemoteIp = codes "remote_ip"
member_name members.DirectRemoteIp = codes "direct_remote_ip"
member_name members.SourcePort = codes "source.port"
member_name members.Mtls = codes "mtls"
member_name members.RequestedServerName = codes "requested_server_name"
member_name members.SubjectPeerCertificate = codes "subject_peer_certificate"
member_name members.DnsSanPeerCertificate = codes "dns_san_peer_certificate"
member_name members.UriSanPeerCertificate = codes "uri_san_peer_certificate"

-- all members of `map`, in the order in which their fields are read
abbrev pub every_member : List Member
every_member =
    members.Method ∷ members.Target ∷ members.Host ∷ members.Scheme ∷ members.RemoteIp
    ∷ members.DirectRemoteIp ∷ members.SourcePort ∷ members.Mtls ∷ members.RequestedServerName
    ∷ members.SubjectPeerCertificate ∷ members.DnsSanPeerCertificate ∷ members.UriSanPeerCertificate ∷ []

-- the member with its value, if it is present
abbrev pub valued : Option Data → Member → Option (Member × Data)
valued d member = option_map (λ value. (member, value)) (member_of (member_name member) d)

-- those of the members that are present, each with its value
abbrev pub present : Option Data → List Member → List (Member × Data)
present d = filter_map (valued d)

-- the names of an object that names a field and a place from the right
abbrev pub place_names : List (List ℕ)
place_names = codes "field" ∷ codes "hops" ∷ []

-- the names of an object that names a field and a text
abbrev pub text_names : List (List ℕ)
text_names = codes "field" ∷ codes "is" ∷ []

-- the value names the field that holds the fact; with a place from the right, or a text, it is an object
abbrev pub NamesField : Data → String Global → Fact → Type 0
NamesField d field (facts.ForwardedFor place) =
    HasOnly place_names d × (get (codes "field") d ≡ Some (string (string_bytes field))) × IsNumberFrom 1 1000 1 (get (codes "hops") d) place
NamesField d field (facts.Mtls is) = HasOnly text_names d × (get (codes "field") d ≡ Some (string (string_bytes field)))
    × (get (codes "is") d ≡ Some (string (string_bytes is)))
NamesField d field fact = d ≡ string (string_bytes field)

-- the member of this value names this field, which holds what the member's name says
abbrev pub IsNamedBy : Member × Data → NamedFact → Type 0
IsNamedBy (member, d) one = (fact_name one.fact ≡ member_name member) × NamesField d one.field one.fact

-- the names of an array; none if there is no member
abbrev pub AreRequired : Option Data → List (List ℕ) → Type 0
AreRequired None names = names ≡ []
AreRequired (Some d) names = d ≡ array (items_of (map string names))

-- the mapping that the members `map` and `require` declare; it keeps all rules of mappings
pub record IsMappingBy (d : Option Data) (m : Mapping) : Type 0 where
  pub names : IfSome (member_of (codes "map") d) (HasOnly (map member_name every_member))
  pub named : AllZip IsNamedBy (present (member_of (codes "map") d) every_member) (mapping_view m).named
  pub required : AreRequired (member_of (codes "require") d) (mapping_view m).required
  pub is : IsMapping (mapping_view m)

-- the text for which paths are judged
abbrev pub paths_name : Paths → List ℕ
paths_name AsSent = codes "as_sent"
paths_name Strict = codes "strict"

-- which paths a member says to judge; each one if there is no member
abbrev pub IsPathsBy : Option Data → Paths → Type 0
IsPathsBy None paths = paths ≡ AsSent
IsPathsBy (Some d) paths = d ≡ string (paths_name paths)
