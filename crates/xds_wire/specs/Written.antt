-- What writers write of the discovery messages: Protocol Buffers encoding guide. Fields are in ascending
-- order of number, each number in its shortest spelling, and defaults are left out.
use Rattle.std.specs.Prelude.{◌≡◌, ℕ, ℤ, ◌==◌, Option, Some, None, List, [], ◌∷◌, ◌++◌, map, if◌then◌else◌, IsUtf8, IfSome, FitsSigned}
use Rattle.std.specs.Int.{w32, w64, cast_unsigned}
use Rattle.std.specs.List.{AllByRecursion, flat_map}
use Rattle.proto_wire.specs.Fields.{Wire, varint, len}
use Rattle.proto_wire.specs.Shortest.{Shortest, field_of}
use Rattle.xds_wire.specs.Discovery.{AnyMessage, StatusMessage, NodeMessage, RequestMessage, ResponseMessage, ExtensionMessage, any_field, status_field, node_field, request_field, response_field, extension_field}

-- the field of a string or of bytes; none for the empty one, which is the default
abbrev pub string_fields : ℕ → List ℕ → List Wire
string_fields k [] = []
string_fields k (b ∷ bytes) = field_of k (len (b ∷ bytes)) ∷ []

-- the fields of repeated strings; an empty string has one too
abbrev pub strings_fields : ℕ → List (List ℕ) → List Wire
strings_fields k texts = map (λ text. field_of k (len text)) texts

-- the field of an int32, in 64 bits of two's complement; none for 0, which is the default
abbrev pub int32_fields : ℕ → ℤ → List Wire
int32_fields k n =
    if cast_unsigned w64 n == 0 then [] else field_of k (varint (cast_unsigned w64 n)) ∷ []

-- the field of an optional message; a message without bytes has one too
abbrev pub AreOptional : {M : Type 0} → (M → List ℕ → Type 0) → ℕ → Option M → List Wire → Type 0
AreOptional Written k None fs = fs ≡ []
AreOptional Written k (Some m) fs =
    (bytes : List ℕ) × Written m bytes × (fs ≡ field_of k (len bytes) ∷ [])

-- the fields of repeated messages
abbrev pub AreEach : {M : Type 0} → (M → List ℕ → Type 0) → ℕ → List M → List Wire → Type 0
AreEach Written k [] fs = fs ≡ []
AreEach Written k (m ∷ ms) fs =
    (bytes : List ℕ) × (rest : List Wire) × Written m bytes × AreEach Written k ms rest
    × (fs ≡ field_of k (len bytes) ∷ rest)

-- the bytes are the fields of these groups, in order
abbrev pub SpellsGroups : List (List Wire) → List ℕ → Type 0
SpellsGroups groups bytes = Shortest (flat_map (λ fs. fs) groups) bytes

-- the bytes that are written for an Any
abbrev pub AnyWritten : AnyMessage → List ℕ → Type 0
AnyWritten m bytes = SpellsGroups
    (string_fields any_field.type_url m.type_url ∷ string_fields any_field.value m.value ∷ []) bytes

-- the bytes that are written for a status
abbrev pub StatusWritten : StatusMessage → List ℕ → Type 0
StatusWritten m bytes = SpellsGroups
    (int32_fields status_field.code m.code ∷ string_fields status_field.message m.message ∷ []) bytes

-- the bytes that are written for a node
abbrev pub NodeWritten : NodeMessage → List ℕ → Type 0
NodeWritten m bytes = SpellsGroups
    (string_fields node_field.id m.id ∷ string_fields node_field.cluster m.cluster ∷ []) bytes

-- the bytes that are written for a request
pub record RequestWritten (m : RequestMessage) (bytes : List ℕ) : Type 0 where
  pub node : List Wire
  pub error_detail : List Wire
  pub node_fields : AreOptional NodeWritten request_field.node m.node node
  pub error_fields : AreOptional StatusWritten request_field.error_detail m.error_detail error_detail
  pub spells : SpellsGroups
      (string_fields request_field.version_info m.version_info ∷ node
      ∷ strings_fields request_field.resource_names m.resource_names
      ∷ string_fields request_field.type_url m.type_url
      ∷ string_fields request_field.response_nonce m.response_nonce ∷ error_detail ∷ []) bytes

-- the bytes that are written for a response
pub record ResponseWritten (m : ResponseMessage) (bytes : List ℕ) : Type 0 where
  pub resources : List Wire
  pub resource_fields : AreEach AnyWritten response_field.resources m.resources resources
  pub spells : SpellsGroups
      (string_fields response_field.version_info m.version_info ∷ resources
      ∷ string_fields response_field.type_url m.type_url
      ∷ string_fields response_field.nonce m.nonce ∷ []) bytes

-- the bytes that are written for an extension
pub record ExtensionWritten (m : ExtensionMessage) (bytes : List ℕ) : Type 0 where
  pub typed_config : List Wire
  pub config_fields : AreOptional AnyWritten extension_field.typed_config m.typed_config typed_config
  pub spells : SpellsGroups (string_fields extension_field.name m.name ∷ typed_config ∷ []) bytes

-- the new bytes are the old ones and then a message
abbrev pub AddsMessage : (List ℕ → Type 0) → List ℕ → List ℕ → Type 0
AddsMessage Written before after = (bytes : List ℕ) × Written bytes × (after ≡ before ++ bytes)

-- ---- messages that read back as they are written: strings are UTF-8, and a code is an int32

-- an Any that reads back
abbrev pub IsSoundAny : AnyMessage → Type 0
IsSoundAny m = IsUtf8 m.type_url

-- a status that reads back
abbrev pub IsSoundStatus : StatusMessage → Type 0
IsSoundStatus m = FitsSigned w32 m.code × IsUtf8 m.message

-- a node that reads back
abbrev pub IsSoundNode : NodeMessage → Type 0
IsSoundNode m = IsUtf8 m.id × IsUtf8 m.cluster

-- a request that reads back
pub record IsSoundRequest (m : RequestMessage) : Type 0 where
  pub version_info : IsUtf8 m.version_info
  pub node : IfSome m.node IsSoundNode
  pub resource_names : AllByRecursion IsUtf8 m.resource_names
  pub type_url : IsUtf8 m.type_url
  pub response_nonce : IsUtf8 m.response_nonce
  pub error_detail : IfSome m.error_detail IsSoundStatus

-- a response that reads back
pub record IsSoundResponse (m : ResponseMessage) : Type 0 where
  pub version_info : IsUtf8 m.version_info
  pub resources : AllByRecursion IsSoundAny m.resources
  pub type_url : IsUtf8 m.type_url
  pub nonce : IsUtf8 m.nonce

-- an extension that reads back
pub record IsSoundExtension (m : ExtensionMessage) : Type 0 where
  pub name : IsUtf8 m.name
  pub typed_config : IfSome m.typed_config IsSoundAny
