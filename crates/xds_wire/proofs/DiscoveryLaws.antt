-- Bytes are a discovery message or have a fault, never both, and they are one at most.
use Rattle.std.proofs.Common.{◌≡◌, ◌⊎◌, inl, inr, Option, List, [], ◌∷◌, ℕ, ℤ, refl, ap₂, ◌∙◌, sym}
use Rattle.proto_wire.specs.Fields.{Wire}
use Rattle.proto_wire.specs.Values.{bytes_at, int32_at, StringFault}
use Rattle.proto_wire.specs.declared.refusal.Refusal.{Refusal}
use Rattle.xds_wire.specs.Discovery.{AnyMessage, AreAnyFields, IsAny, AnyFault, StatusMessage, AreStatusFields, IsStatus, StatusFault, NodeMessage, AreNodeFields, NodeFieldsFault, bad_node_id, bad_node_cluster, IsNode, NodeFault, RequestMessage, AreRequestFields, RequestFieldsFault, bad_request_version, bad_request_node, bad_request_names, bad_request_type, bad_request_nonce, bad_request_error, IsRequest, RequestFault, ResponseMessage, AreResponseFields, ResponseFieldsFault, bad_response_version, bad_response_resource, bad_response_type, bad_response_nonce, IsResponse, ResponseFault, ExtensionMessage, AreExtensionFields, ExtensionFieldsFault, bad_extension_name, bad_extension_config, IsExtension, ExtensionFault, any_field, status_field, node_field, request_field, response_field, extension_field}
use Rattle.proto_wire.proofs.OptionalLaws.{IsTotal, IsDisjoint, IsUnique, optional_total, optional_disjoint, optional_unique}
use Rattle.xds_wire.proofs.EnvelopeLemmas.{string_total, string_disjoint, string_unique, strings_total, strings_disjoint, strings_unique, repeated_total, repeated_disjoint, repeated_unique, envelope_total, envelope_disjoint, envelope_unique}

-- ---- Any

any_fields_total : (fs : List Wire)
    → ((m : AnyMessage) × AreAnyFields fs m) ⊎ ((e : Refusal) × StringFault any_field.type_url fs e)
any_fields_total fs =
    elim (string_total any_field.type_url fs) [
      | inr (e, bad) ↦ inr (e, bad)
      | inl type_url' ↦
          inl (record { type_url = type_url'.0; value = bytes_at any_field.value fs }, record { type_url = type_url'.1; value = refl })
    ]

any_fields_disjoint : (fs : List Wire) (m : AnyMessage) (e : Refusal) → AreAnyFields fs m
    → StringFault any_field.type_url fs e → ⊥
any_fields_disjoint fs m e is bad = string_disjoint any_field.type_url fs m.type_url e is.type_url bad

any_fields_unique : (fs : List Wire) (m n : AnyMessage) → AreAnyFields fs m → AreAnyFields fs n → m ≡ n
any_fields_unique fs m n a b =
    let type_url' = string_unique any_field.type_url fs m.type_url n.type_url a.type_url b.type_url in
    let value' : m.value ≡ n.value = a.value ∙ sym b.value in
    let make_0 : List ℕ → List ℕ → AnyMessage = λ x y. record { type_url = x; value = y } in
    ap₂ make_0 type_url' value'

pub any_total : IsTotal IsAny AnyFault
any_total = envelope_total AreAnyFields (StringFault any_field.type_url) any_fields_total

pub any_disjoint : IsDisjoint IsAny AnyFault
any_disjoint = envelope_disjoint AreAnyFields (StringFault any_field.type_url) any_fields_disjoint

pub any_unique : IsUnique IsAny
any_unique = envelope_unique AreAnyFields any_fields_unique

-- ---- Status

status_fields_total : (fs : List Wire)
    → ((m : StatusMessage) × AreStatusFields fs m) ⊎ ((e : Refusal) × StringFault status_field.message fs e)
status_fields_total fs =
    elim (string_total status_field.message fs) [
      | inr (e, bad) ↦ inr (e, bad)
      | inl message' ↦
          inl (record { code = int32_at status_field.code fs; message = message'.0 }, record { code = refl; message = message'.1 })
    ]

status_fields_disjoint : (fs : List Wire) (m : StatusMessage) (e : Refusal) → AreStatusFields fs m
    → StringFault status_field.message fs e → ⊥
status_fields_disjoint fs m e is bad = string_disjoint status_field.message fs m.message e is.message bad

status_fields_unique : (fs : List Wire) (m n : StatusMessage) → AreStatusFields fs m → AreStatusFields fs n → m ≡ n
status_fields_unique fs m n a b =
    let code' : m.code ≡ n.code = a.code ∙ sym b.code in
    let message' = string_unique status_field.message fs m.message n.message a.message b.message in
    let make_0 : ℤ → List ℕ → StatusMessage = λ x y. record { code = x; message = y } in
    ap₂ make_0 code' message'

pub status_total : IsTotal IsStatus StatusFault
status_total = envelope_total AreStatusFields (StringFault status_field.message) status_fields_total

pub status_disjoint : IsDisjoint IsStatus StatusFault
status_disjoint = envelope_disjoint AreStatusFields (StringFault status_field.message) status_fields_disjoint

pub status_unique : IsUnique IsStatus
status_unique = envelope_unique AreStatusFields status_fields_unique

-- ---- Node

node_fields_total : (fs : List Wire)
    → ((m : NodeMessage) × AreNodeFields fs m) ⊎ ((e : Refusal) × NodeFieldsFault fs e)
node_fields_total fs =
    elim (string_total node_field.id fs) [
      | inr (e, bad) ↦ inr (e, bad_node_id bad)
      | inl id' ↦
          elim (string_total node_field.cluster fs) [
            | inr (e, bad) ↦ inr (e, bad_node_cluster bad)
            | inl cluster' ↦
                inl (record { id = id'.0; cluster = cluster'.0 }, record { id = id'.1; cluster = cluster'.1 })
          ]
    ]

node_fields_disjoint : (fs : List Wire) (m : NodeMessage) (e : Refusal) → AreNodeFields fs m
    → NodeFieldsFault fs e → ⊥
node_fields_disjoint fs m e is (bad_node_id bad) = string_disjoint node_field.id fs m.id e is.id bad
node_fields_disjoint fs m e is (bad_node_cluster bad) = string_disjoint node_field.cluster fs m.cluster e is.cluster bad

node_fields_unique : (fs : List Wire) (m n : NodeMessage) → AreNodeFields fs m → AreNodeFields fs n → m ≡ n
node_fields_unique fs m n a b =
    let id' = string_unique node_field.id fs m.id n.id a.id b.id in
    let cluster' = string_unique node_field.cluster fs m.cluster n.cluster a.cluster b.cluster in
    let make_0 : List ℕ → List ℕ → NodeMessage = λ x y. record { id = x; cluster = y } in
    ap₂ make_0 id' cluster'

pub node_total : IsTotal IsNode NodeFault
node_total = envelope_total AreNodeFields NodeFieldsFault node_fields_total

pub node_disjoint : IsDisjoint IsNode NodeFault
node_disjoint = envelope_disjoint AreNodeFields NodeFieldsFault node_fields_disjoint

pub node_unique : IsUnique IsNode
node_unique = envelope_unique AreNodeFields node_fields_unique

-- ---- Request

request_fields_total : (fs : List Wire)
    → ((m : RequestMessage) × AreRequestFields fs m) ⊎ ((e : Refusal) × RequestFieldsFault fs e)
request_fields_total fs =
    elim (string_total request_field.version_info fs) [
      | inr (e, bad) ↦ inr (e, bad_request_version bad)
      | inl version_info' ↦
          elim (optional_total IsNode NodeFault node_total request_field.node fs) [
            | inr (e, bad) ↦ inr (e, bad_request_node bad)
            | inl node' ↦
                elim (strings_total request_field.resource_names fs) [
                  | inr (e, bad) ↦ inr (e, bad_request_names bad)
                  | inl resource_names' ↦
                      elim (string_total request_field.type_url fs) [
                        | inr (e, bad) ↦ inr (e, bad_request_type bad)
                        | inl type_url' ↦
                            elim (string_total request_field.response_nonce fs) [
                              | inr (e, bad) ↦ inr (e, bad_request_nonce bad)
                              | inl response_nonce' ↦
                                  elim (optional_total IsStatus StatusFault status_total request_field.error_detail fs) [
                                    | inr (e, bad) ↦ inr (e, bad_request_error bad)
                                    | inl error_detail' ↦
                                        inl (record { version_info = version_info'.0; node = node'.0; resource_names = resource_names'.0; type_url = type_url'.0; response_nonce = response_nonce'.0; error_detail = error_detail'.0 }, record { version_info = version_info'.1; node = node'.1; resource_names = resource_names'.1; type_url = type_url'.1; response_nonce = response_nonce'.1; error_detail = error_detail'.1 })
                                  ]
                            ]
                      ]
                ]
          ]
    ]

request_fields_disjoint : (fs : List Wire) (m : RequestMessage) (e : Refusal) → AreRequestFields fs m
    → RequestFieldsFault fs e → ⊥
request_fields_disjoint fs m e is (bad_request_version bad) = string_disjoint request_field.version_info fs m.version_info e is.version_info bad
request_fields_disjoint fs m e is (bad_request_node bad) = optional_disjoint IsNode NodeFault node_disjoint request_field.node fs m.node e is.node bad
request_fields_disjoint fs m e is (bad_request_names bad) = strings_disjoint request_field.resource_names fs m.resource_names e is.resource_names bad
request_fields_disjoint fs m e is (bad_request_type bad) = string_disjoint request_field.type_url fs m.type_url e is.type_url bad
request_fields_disjoint fs m e is (bad_request_nonce bad) = string_disjoint request_field.response_nonce fs m.response_nonce e is.response_nonce bad
request_fields_disjoint fs m e is (bad_request_error bad) = optional_disjoint IsStatus StatusFault status_disjoint request_field.error_detail fs m.error_detail e is.error_detail bad

request_fields_unique : (fs : List Wire) (m n : RequestMessage) → AreRequestFields fs m → AreRequestFields fs n → m ≡ n
request_fields_unique fs m n a b =
    let version_info' = string_unique request_field.version_info fs m.version_info n.version_info a.version_info b.version_info in
    let node' = optional_unique IsNode node_unique request_field.node fs m.node n.node a.node b.node in
    let resource_names' = strings_unique request_field.resource_names fs m.resource_names n.resource_names a.resource_names b.resource_names in
    let type_url' = string_unique request_field.type_url fs m.type_url n.type_url a.type_url b.type_url in
    let response_nonce' = string_unique request_field.response_nonce fs m.response_nonce n.response_nonce a.response_nonce b.response_nonce in
    let error_detail' = optional_unique IsStatus status_unique request_field.error_detail fs m.error_detail n.error_detail a.error_detail b.error_detail in
    let make_0 : List ℕ → Option NodeMessage → RequestMessage = λ x y. record { version_info = x; node = y; resource_names = m.resource_names; type_url = m.type_url; response_nonce = m.response_nonce; error_detail = m.error_detail } in
    let make_1 : List (List ℕ) → List ℕ → RequestMessage = λ x y. record { version_info = n.version_info; node = n.node; resource_names = x; type_url = y; response_nonce = m.response_nonce; error_detail = m.error_detail } in
    let make_2 : List ℕ → Option StatusMessage → RequestMessage = λ x y. record { version_info = n.version_info; node = n.node; resource_names = n.resource_names; type_url = n.type_url; response_nonce = x; error_detail = y } in
    ap₂ make_0 version_info' node' ∙ ap₂ make_1 resource_names' type_url' ∙ ap₂ make_2 response_nonce' error_detail'

-- the bytes are one or have a fault
pub request_total : (bytes : List ℕ)
    → ((m : RequestMessage) × IsRequest bytes m) ⊎ ((e : Refusal) × RequestFault bytes e)
request_total bytes = envelope_total AreRequestFields RequestFieldsFault request_fields_total (bytes ∷ [])

-- never both
pub request_disjoint : (bytes : List ℕ) (m : RequestMessage) (e : Refusal) → IsRequest bytes m → RequestFault bytes e
    → ⊥
request_disjoint bytes = envelope_disjoint AreRequestFields RequestFieldsFault request_fields_disjoint (bytes ∷ [])

-- one at most
pub request_unique : (bytes : List ℕ) (m n : RequestMessage) → IsRequest bytes m → IsRequest bytes n → m ≡ n
request_unique bytes = envelope_unique AreRequestFields request_fields_unique (bytes ∷ [])

-- ---- Response

response_fields_total : (fs : List Wire)
    → ((m : ResponseMessage) × AreResponseFields fs m) ⊎ ((e : Refusal) × ResponseFieldsFault fs e)
response_fields_total fs =
    elim (string_total response_field.version_info fs) [
      | inr (e, bad) ↦ inr (e, bad_response_version bad)
      | inl version_info' ↦
          elim (repeated_total IsAny AnyFault any_total response_field.resources fs) [
            | inr (e, bad) ↦ inr (e, bad_response_resource bad)
            | inl resources' ↦
                elim (string_total response_field.type_url fs) [
                  | inr (e, bad) ↦ inr (e, bad_response_type bad)
                  | inl type_url' ↦
                      elim (string_total response_field.nonce fs) [
                        | inr (e, bad) ↦ inr (e, bad_response_nonce bad)
                        | inl nonce' ↦
                            inl (record { version_info = version_info'.0; resources = resources'.0; type_url = type_url'.0; nonce = nonce'.0 }, record { version_info = version_info'.1; resources = resources'.1; type_url = type_url'.1; nonce = nonce'.1 })
                      ]
                ]
          ]
    ]

response_fields_disjoint : (fs : List Wire) (m : ResponseMessage) (e : Refusal) → AreResponseFields fs m
    → ResponseFieldsFault fs e → ⊥
response_fields_disjoint fs m e is (bad_response_version bad) = string_disjoint response_field.version_info fs m.version_info e is.version_info bad
response_fields_disjoint fs m e is (bad_response_resource bad) = repeated_disjoint IsAny AnyFault any_disjoint response_field.resources fs m.resources e is.resources bad
response_fields_disjoint fs m e is (bad_response_type bad) = string_disjoint response_field.type_url fs m.type_url e is.type_url bad
response_fields_disjoint fs m e is (bad_response_nonce bad) = string_disjoint response_field.nonce fs m.nonce e is.nonce bad

response_fields_unique : (fs : List Wire) (m n : ResponseMessage) → AreResponseFields fs m → AreResponseFields fs n → m ≡ n
response_fields_unique fs m n a b =
    let version_info' = string_unique response_field.version_info fs m.version_info n.version_info a.version_info b.version_info in
    let resources' = repeated_unique IsAny any_unique response_field.resources fs m.resources n.resources a.resources b.resources in
    let type_url' = string_unique response_field.type_url fs m.type_url n.type_url a.type_url b.type_url in
    let nonce' = string_unique response_field.nonce fs m.nonce n.nonce a.nonce b.nonce in
    let make_0 : List ℕ → List AnyMessage → ResponseMessage = λ x y. record { version_info = x; resources = y; type_url = m.type_url; nonce = m.nonce } in
    let make_1 : List ℕ → List ℕ → ResponseMessage = λ x y. record { version_info = n.version_info; resources = n.resources; type_url = x; nonce = y } in
    ap₂ make_0 version_info' resources' ∙ ap₂ make_1 type_url' nonce'

-- the bytes are one or have a fault
pub response_total : (bytes : List ℕ)
    → ((m : ResponseMessage) × IsResponse bytes m) ⊎ ((e : Refusal) × ResponseFault bytes e)
response_total bytes = envelope_total AreResponseFields ResponseFieldsFault response_fields_total (bytes ∷ [])

-- never both
pub response_disjoint : (bytes : List ℕ) (m : ResponseMessage) (e : Refusal) → IsResponse bytes m → ResponseFault bytes e
    → ⊥
response_disjoint bytes = envelope_disjoint AreResponseFields ResponseFieldsFault response_fields_disjoint (bytes ∷ [])

-- one at most
pub response_unique : (bytes : List ℕ) (m n : ResponseMessage) → IsResponse bytes m → IsResponse bytes n → m ≡ n
response_unique bytes = envelope_unique AreResponseFields response_fields_unique (bytes ∷ [])

-- ---- Extension

extension_fields_total : (fs : List Wire)
    → ((m : ExtensionMessage) × AreExtensionFields fs m) ⊎ ((e : Refusal) × ExtensionFieldsFault fs e)
extension_fields_total fs =
    elim (string_total extension_field.name fs) [
      | inr (e, bad) ↦ inr (e, bad_extension_name bad)
      | inl name' ↦
          elim (optional_total IsAny AnyFault any_total extension_field.typed_config fs) [
            | inr (e, bad) ↦ inr (e, bad_extension_config bad)
            | inl typed_config' ↦
                inl (record { name = name'.0; typed_config = typed_config'.0 }, record { name = name'.1; typed_config = typed_config'.1 })
          ]
    ]

extension_fields_disjoint : (fs : List Wire) (m : ExtensionMessage) (e : Refusal) → AreExtensionFields fs m
    → ExtensionFieldsFault fs e → ⊥
extension_fields_disjoint fs m e is (bad_extension_name bad) = string_disjoint extension_field.name fs m.name e is.name bad
extension_fields_disjoint fs m e is (bad_extension_config bad) = optional_disjoint IsAny AnyFault any_disjoint extension_field.typed_config fs m.typed_config e is.typed_config bad

extension_fields_unique : (fs : List Wire) (m n : ExtensionMessage) → AreExtensionFields fs m → AreExtensionFields fs n → m ≡ n
extension_fields_unique fs m n a b =
    let name' = string_unique extension_field.name fs m.name n.name a.name b.name in
    let typed_config' = optional_unique IsAny any_unique extension_field.typed_config fs m.typed_config n.typed_config a.typed_config b.typed_config in
    let make_0 : List ℕ → Option AnyMessage → ExtensionMessage = λ x y. record { name = x; typed_config = y } in
    ap₂ make_0 name' typed_config'

-- the bytes are one or have a fault
pub extension_total : (bytes : List ℕ)
    → ((m : ExtensionMessage) × IsExtension bytes m) ⊎ ((e : Refusal) × ExtensionFault bytes e)
extension_total bytes = envelope_total AreExtensionFields ExtensionFieldsFault extension_fields_total (bytes ∷ [])

-- never both
pub extension_disjoint : (bytes : List ℕ) (m : ExtensionMessage) (e : Refusal) → IsExtension bytes m → ExtensionFault bytes e
    → ⊥
extension_disjoint bytes = envelope_disjoint AreExtensionFields ExtensionFieldsFault extension_fields_disjoint (bytes ∷ [])

-- one at most
pub extension_unique : (bytes : List ℕ) (m n : ExtensionMessage) → IsExtension bytes m → IsExtension bytes n → m ≡ n
extension_unique bytes = envelope_unique AreExtensionFields extension_fields_unique (bytes ∷ [])
