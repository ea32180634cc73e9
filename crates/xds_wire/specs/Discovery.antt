-- The messages of the update stream, each as the table of its fields: Envoy v3 API,
-- `service/discovery/v3/discovery.proto` and `config/core/v3/{base,extension}.proto`, and
-- `google/protobuf/any.proto`, `google/rpc/status.proto`.
use Rattle.std.specs.Prelude.{◌≡◌, ℕ, ℤ, Option, List, [], ◌∷◌}
use Rattle.proto_wire.specs.Fields.{Wire}
use Rattle.proto_wire.specs.Values.{bytes_at, int32_at, StringFault}
use Rattle.proto_wire.specs.declared.refusal.Refusal.{Refusal}
use Rattle.proto_wire.specs.Reading.{IsOptional, OptionalFault}
use Rattle.xds_wire.specs.Envelope.{IsEnvelope, EnvelopeFault, IsString, AreStrings, StringsFault, AreRepeated, RepeatedFault}

-- ---- google.protobuf.Any

-- a message of any type: the name of its type, and its bytes
pub record AnyMessage : Type 0 where
  pub type_url : List ℕ
  pub value : List ℕ

-- the numbers of the fields of an Any
abbrev pub any_field : record { type_url : ℕ; value : ℕ }
any_field = record { type_url = 1; value = 2 }

-- its fields
pub record AreAnyFields (fs : List Wire) (m : AnyMessage) : Type 0 where
  pub type_url : IsString any_field.type_url fs m.type_url
  pub value : m.value ≡ bytes_at any_field.value fs

-- the payloads merge to this Any
abbrev pub IsAny : List (List ℕ) → AnyMessage → Type 0
IsAny = IsEnvelope AreAnyFields

-- the payloads have this fault as an Any
abbrev pub AnyFault : List (List ℕ) → Refusal → Type 0
AnyFault = EnvelopeFault (StringFault any_field.type_url)

-- ---- google.rpc.Status

-- an error: its code and a text
pub record StatusMessage : Type 0 where
  pub code : ℤ
  pub message : List ℕ

-- the numbers of the fields of a Status
abbrev pub status_field : record { code : ℕ; message : ℕ }
status_field = record { code = 1; message = 2 }

-- its fields
pub record AreStatusFields (fs : List Wire) (m : StatusMessage) : Type 0 where
  pub code : m.code ≡ int32_at status_field.code fs
  pub message : IsString status_field.message fs m.message

-- the payloads merge to this status
abbrev pub IsStatus : List (List ℕ) → StatusMessage → Type 0
IsStatus = IsEnvelope AreStatusFields

-- the payloads have this fault as a status
abbrev pub StatusFault : List (List ℕ) → Refusal → Type 0
StatusFault = EnvelopeFault (StringFault status_field.message)

-- ---- envoy.config.core.v3.Node

-- the client
pub record NodeMessage : Type 0 where
  pub id : List ℕ
  pub cluster : List ℕ

-- the numbers of the fields of a Node
abbrev pub node_field : record { id : ℕ; cluster : ℕ }
node_field = record { id = 1; cluster = 2 }

-- its fields
pub record AreNodeFields (fs : List Wire) (m : NodeMessage) : Type 0 where
  pub id : IsString node_field.id fs m.id
  pub cluster : IsString node_field.cluster fs m.cluster

-- these fields of a Node have this fault
pub data NodeFieldsFault (fs : List Wire) (e : Refusal) : Type 0 where
  bad_node_id : StringFault node_field.id fs e → NodeFieldsFault fs e
  bad_node_cluster : StringFault node_field.cluster fs e → NodeFieldsFault fs e

-- the payloads merge to this node
abbrev pub IsNode : List (List ℕ) → NodeMessage → Type 0
IsNode = IsEnvelope AreNodeFields

-- the payloads have this fault as a node
abbrev pub NodeFault : List (List ℕ) → Refusal → Type 0
NodeFault = EnvelopeFault NodeFieldsFault

-- ---- envoy.service.discovery.v3.DiscoveryRequest

-- the resources that a client asks for, and its answer to the last response
pub record RequestMessage : Type 0 where
  pub version_info : List ℕ
  pub node : Option NodeMessage
  pub resource_names : List (List ℕ)
  pub type_url : List ℕ
  pub response_nonce : List ℕ
  pub error_detail : Option StatusMessage

-- the numbers of the fields of a DiscoveryRequest
abbrev pub request_field : record { version_info : ℕ; node : ℕ; resource_names : ℕ; type_url : ℕ; response_nonce : ℕ; error_detail : ℕ }
request_field = record { version_info = 1; node = 2; resource_names = 3; type_url = 4; response_nonce = 5; error_detail = 6 }

-- its fields
pub record AreRequestFields (fs : List Wire) (m : RequestMessage) : Type 0 where
  pub version_info : IsString request_field.version_info fs m.version_info
  pub node : IsOptional IsNode request_field.node fs m.node
  pub resource_names : AreStrings request_field.resource_names fs m.resource_names
  pub type_url : IsString request_field.type_url fs m.type_url
  pub response_nonce : IsString request_field.response_nonce fs m.response_nonce
  pub error_detail : IsOptional IsStatus request_field.error_detail fs m.error_detail

-- these fields of a DiscoveryRequest have this fault
pub data RequestFieldsFault (fs : List Wire) (e : Refusal) : Type 0 where
  bad_request_version : StringFault request_field.version_info fs e → RequestFieldsFault fs e
  bad_request_node : OptionalFault NodeFault request_field.node fs e → RequestFieldsFault fs e
  bad_request_names : StringsFault request_field.resource_names fs e → RequestFieldsFault fs e
  bad_request_type : StringFault request_field.type_url fs e → RequestFieldsFault fs e
  bad_request_nonce : StringFault request_field.response_nonce fs e → RequestFieldsFault fs e
  bad_request_error : OptionalFault StatusFault request_field.error_detail fs e → RequestFieldsFault fs e

-- the bytes are this request
abbrev pub IsRequest : List ℕ → RequestMessage → Type 0
IsRequest bytes m = IsEnvelope AreRequestFields (bytes ∷ []) m

-- the bytes have this fault as a request
abbrev pub RequestFault : List ℕ → Refusal → Type 0
RequestFault bytes e = EnvelopeFault RequestFieldsFault (bytes ∷ []) e

-- ---- envoy.service.discovery.v3.DiscoveryResponse

-- resources of one type, their version, and the nonce that a client names in its answer
pub record ResponseMessage : Type 0 where
  pub version_info : List ℕ
  pub resources : List AnyMessage
  pub type_url : List ℕ
  pub nonce : List ℕ

-- the numbers of the fields of a DiscoveryResponse
abbrev pub response_field : record { version_info : ℕ; resources : ℕ; type_url : ℕ; nonce : ℕ }
response_field = record { version_info = 1; resources = 2; type_url = 4; nonce = 5 }

-- its fields
pub record AreResponseFields (fs : List Wire) (m : ResponseMessage) : Type 0 where
  pub version_info : IsString response_field.version_info fs m.version_info
  pub resources : AreRepeated IsAny response_field.resources fs m.resources
  pub type_url : IsString response_field.type_url fs m.type_url
  pub nonce : IsString response_field.nonce fs m.nonce

-- these fields of a DiscoveryResponse have this fault
pub data ResponseFieldsFault (fs : List Wire) (e : Refusal) : Type 0 where
  bad_response_version : StringFault response_field.version_info fs e → ResponseFieldsFault fs e
  bad_response_resource : RepeatedFault AnyFault response_field.resources fs e → ResponseFieldsFault fs e
  bad_response_type : StringFault response_field.type_url fs e → ResponseFieldsFault fs e
  bad_response_nonce : StringFault response_field.nonce fs e → ResponseFieldsFault fs e

-- the bytes are this response
abbrev pub IsResponse : List ℕ → ResponseMessage → Type 0
IsResponse bytes m = IsEnvelope AreResponseFields (bytes ∷ []) m

-- the bytes have this fault as a response
abbrev pub ResponseFault : List ℕ → Refusal → Type 0
ResponseFault bytes e = EnvelopeFault ResponseFieldsFault (bytes ∷ []) e

-- ---- envoy.config.core.v3.TypedExtensionConfig

-- a named resource and its configuration
pub record ExtensionMessage : Type 0 where
  pub name : List ℕ
  pub typed_config : Option AnyMessage

-- the numbers of the fields of a TypedExtensionConfig
abbrev pub extension_field : record { name : ℕ; typed_config : ℕ }
extension_field = record { name = 1; typed_config = 2 }

-- its fields
pub record AreExtensionFields (fs : List Wire) (m : ExtensionMessage) : Type 0 where
  pub name : IsString extension_field.name fs m.name
  pub typed_config : IsOptional IsAny extension_field.typed_config fs m.typed_config

-- these fields of a TypedExtensionConfig have this fault
pub data ExtensionFieldsFault (fs : List Wire) (e : Refusal) : Type 0 where
  bad_extension_name : StringFault extension_field.name fs e → ExtensionFieldsFault fs e
  bad_extension_config : OptionalFault AnyFault extension_field.typed_config fs e → ExtensionFieldsFault fs e

-- the bytes are this extension
abbrev pub IsExtension : List ℕ → ExtensionMessage → Type 0
IsExtension bytes m = IsEnvelope AreExtensionFields (bytes ∷ []) m

-- the bytes have this fault as an extension
abbrev pub ExtensionFault : List ℕ → Refusal → Type 0
ExtensionFault bytes e = EnvelopeFault ExtensionFieldsFault (bytes ∷ []) e
