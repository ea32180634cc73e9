-- How a control plane is called that speaks gRPC, by the member `grpc` (gRPC over HTTP/2, Requests).
use Rattle.std.specs.Prelude.{◌≡◌, ◌≤◌, ℕ, Bool, true, false, not, ◌&&◌, ◌==◌, nat_le, nat_lt, List, [], ◌∷◌, IfSome, Option, None, Some, codes, length, string_bytes}
use Rattle.std.specs.Char.{is_ascii_graphic}
use Rattle.std.specs.List.{AllZip, list_all}
use Rattle.std.specs.declared.alloc.Global.{Global}
use Rattle.std.specs.declared.string.String.{String}
use Rattle.serde_json.specs.Data.{Data, array, string}
use Rattle.serde_json.specs.Find.{get}
use Rattle.serde_json.specs.View.{items_of}
use Rattle.proto_wire.specs.Merge.{SomeOf}
use Rattle.program_texts.specs.Members.{HasOnly}
use Rattle.head_map.specs.Mappings.{is_name}
use Rattle.serve_config.specs.Members.{IsNumberFrom, IsOrNull, member_of}
use Rattle.serve_config.specs.declared.address.ControlAddress.{ControlAddress}
use Rattle.serve_config.specs.declared.address.ControlAddress.TheVariants as planes
use Rattle.serve_config.specs.declared.grpc.CallMethod.{CallMethod}
use Rattle.serve_config.specs.declared.grpc.CallMethod.TheVariants as methods
use Rattle.serve_config.specs.declared.grpc.GrpcCall.{GrpcCall}
use Rattle.serve_config.specs.declared.grpc.Metadata.{Metadata}

-- a text of 1 to 256 bytes
abbrev pub is_short : List ℕ → Bool
is_short text = nat_lt 0 (length text) && nat_le (length text) 256

-- a printable character of ASCII (RFC 20, section 4)
abbrev pub is_printable : ℕ → Bool
is_printable b = nat_le 32 b && nat_le b 126

-- an authority that a call may name (RFC 9113, section 8.3.1)
abbrev pub is_authority : List ℕ → Bool
is_authority text = is_short text && list_all is_ascii_graphic text

-- a name that gRPC keeps for itself: it begins with `grpc-`
abbrev pub is_grpcs : List ℕ → Bool
is_grpcs (g ∷ r ∷ p ∷ c ∷ dash ∷ rest) = (g == 103) && (r == 114) && (p == 112) && (c == 99) && (dash == 45)
is_grpcs name = false

-- the name of a field that may be sent with a call, unless the call has it by itself
abbrev pub is_short_name : List ℕ → Bool
is_short_name name = is_short name && is_name name && not (is_grpcs name)

-- the names of the fields that a call has by itself, or that HTTP/2 does not allow (RFC 9113, section 8.2.2)
abbrev pub own_names : List (List ℕ)
own_names =
    codes "te" ∷ codes "content-type" ∷ codes "content-length" ∷ codes "user-agent" ∷ codes "host" ∷ codes "connection"
    ∷ codes "keep-alive" ∷ codes "proxy-connection" ∷ codes "transfer-encoding" ∷ codes "upgrade" ∷ []

-- the name of a field that may be sent with a call
abbrev pub IsMetadataName : List ℕ → Type 0
IsMetadataName name = (is_short_name name ≡ true) × ¬ SomeOf (λ n. n ≡ name) own_names

-- the value of such a field
abbrev pub is_metadata_value : List ℕ → Bool
is_metadata_value value = is_short value && list_all is_printable value

-- the names that such a field's object may have
abbrev pub metadata_names : List (List ℕ)
metadata_names = codes "name" ∷ codes "value" ∷ []

-- the object is this field
pub record IsMetadata (d : Data) (field : Metadata) : Type 0 where
  pub names : HasOnly metadata_names d
  pub name : get (codes "name") d ≡ Some (string (string_bytes field.name))
  pub value : get (codes "value") d ≡ Some (string (string_bytes field.value))
  pub is_name : IsMetadataName (string_bytes field.name)
  pub is_value : is_metadata_value (string_bytes field.value) ≡ true

-- the value is an array of at most 32 objects, each of which is the field at its place; absent is none
abbrev pub AreMetadata : Option Data → List Metadata → Type 0
AreMetadata None fields = fields ≡ []
AreMetadata (Some d) fields =
    (ds : List Data) × (d ≡ array (items_of ds)) × (length ds ≤ 32) × AllZip IsMetadata ds fields

-- the text for a method
abbrev pub method_name : CallMethod → List ℕ
method_name methods.Ads = codes "ads"
method_name methods.Ecds = codes "ecds"

-- the value is the text for the method; absent is the aggregated stream
abbrev pub IsMethodBy : Option Data → CallMethod → Type 0
IsMethodBy None method = method ≡ methods.Ads
IsMethodBy (Some d) method = d ≡ string (method_name method)

-- the value is a text, which is this authority
abbrev pub IsAuthority : Data → String Global → Type 0
IsAuthority d authority = (d ≡ string (string_bytes authority)) × (is_authority (string_bytes authority) ≡ true)

-- the names that a call's object may have
abbrev pub call_names : List (List ℕ)
call_names = codes "method" ∷ codes "authority" ∷ codes "metadata" ∷ codes "keepalive" ∷ []

-- the control plane at this address speaks gRPC
abbrev pub SpeaksGrpc : ControlAddress → Type 0
SpeaksGrpc (planes.Tcp a) = ⊥
SpeaksGrpc (planes.Unix path) = ⊥
SpeaksGrpc (planes.File path) = ⊥
SpeaksGrpc (planes.GrpcTcp a) = Unit {0}
SpeaksGrpc (planes.GrpcUnix path) = Unit {0}

-- the call that an object declares, if it is present, each part with its default. It may be present only if the control
-- plane speaks gRPC
pub record IsCallFor (control : ControlAddress) (d : Option Data) (call : GrpcCall) : Type 0 where
  pub allowed : IfSome d (λ _. SpeaksGrpc control)
  pub names : IfSome d (HasOnly call_names)
  pub method : IsMethodBy (member_of (codes "method") d) call.method
  pub authority : IsOrNull IsAuthority (member_of (codes "authority") d) call.authority
  pub metadata : AreMetadata (member_of (codes "metadata") d) call.metadata.items
  pub keepalive : IsNumberFrom 0 86400000 0 (member_of (codes "keepalive") d) call.keepalive
