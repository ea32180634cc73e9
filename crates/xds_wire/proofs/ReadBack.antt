-- What is written of a discovery message is read back as that message, and there is one way to write it.
use Rattle.std.proofs.Common.{◌≡◌, ℕ, Option, Some, None, List, [], ◌∷◌, refl, sym, ap, ap₂, subst, ◌∙◌, append-nil}
use Rattle.proto_wire.specs.Fields.{Wire, len}
use Rattle.proto_wire.specs.Merge.{Merges}
use Rattle.proto_wire.specs.Shortest.{Shortest, field_of}
use Rattle.proto_wire.specs.Values.{varint_in, len_in, payloads, varints}
use Rattle.proto_wire.proofs.ShortestLemmas.{shortest_reads, shortest_unique}
use Rattle.xds_wire.specs.Discovery.{AnyMessage, IsAny, StatusMessage, IsStatus, NodeMessage, IsNode, RequestMessage, IsRequest, ResponseMessage, IsResponse, ExtensionMessage, IsExtension, any_field, status_field, node_field, request_field, response_field, extension_field}
use Rattle.xds_wire.specs.Written.{string_fields, strings_fields, int32_fields, AreOptional, AreEach, AnyWritten, IsSoundAny, StatusWritten, IsSoundStatus, NodeWritten, IsSoundNode, RequestWritten, IsSoundRequest, ResponseWritten, IsSoundResponse, ExtensionWritten, IsSoundExtension}
use Rattle.xds_wire.proofs.Groups.{in_row, picks_own, string_other, strings_other, int32_other, optional_other, each_other}
use Rattle.xds_wire.proofs.GroupValues.{bytes_back, string_back, strings_back, merged_back, repeated_back, code_back}

-- the fields that are written are the message's
pub merges_one : (fs : List Wire) (bytes : List ℕ) → Shortest fs bytes → Merges (bytes ∷ []) fs
merges_one fs bytes spells = (fs, [], shortest_reads fs bytes spells, refl, sym (append-nil fs))

pub any_back : (m : AnyMessage) (bytes : List ℕ) → IsSoundAny m → AnyWritten m bytes
    → IsAny (bytes ∷ []) m
any_back m bytes sound w =
    let fs : List Wire = in_row ((string_fields any_field.type_url m.type_url) ∷ (string_fields any_field.value m.value) ∷ []) in
    let own_1 : payloads any_field.type_url fs ≡ payloads any_field.type_url (string_fields any_field.type_url m.type_url) =
    picks_own len_in any_field.type_url ([]) (string_fields any_field.type_url m.type_url) ((string_fields any_field.value m.value) ∷ [])
    tt
    (string_other len_in any_field.type_url any_field.value m.value refl, tt) in
    let own_2 : payloads any_field.value fs ≡ payloads any_field.value (string_fields any_field.value m.value) =
    picks_own len_in any_field.value ((string_fields any_field.type_url m.type_url) ∷ []) (string_fields any_field.value m.value) ([])
    (string_other len_in any_field.value any_field.type_url m.type_url refl, tt)
    tt in (
      fs,
      merges_one fs bytes w,
      record {
        type_url = string_back any_field.type_url refl fs m.type_url own_1 sound;
        value = bytes_back any_field.value refl fs m.value own_2;
      },
    )

pub status_back : (m : StatusMessage) (bytes : List ℕ) → IsSoundStatus m → StatusWritten m bytes
    → IsStatus (bytes ∷ []) m
status_back m bytes sound w =
    let fs : List Wire = in_row ((int32_fields status_field.code m.code) ∷ (string_fields status_field.message m.message) ∷ []) in
    let own_1 : varints status_field.code fs ≡ varints status_field.code (int32_fields status_field.code m.code) =
    picks_own varint_in status_field.code ([]) (int32_fields status_field.code m.code) ((string_fields status_field.message m.message) ∷ [])
    tt
    (string_other varint_in status_field.code status_field.message m.message refl, tt) in
    let own_2 : payloads status_field.message fs ≡ payloads status_field.message (string_fields status_field.message m.message) =
    picks_own len_in status_field.message ((int32_fields status_field.code m.code) ∷ []) (string_fields status_field.message m.message) ([])
    (int32_other len_in status_field.message status_field.code m.code refl, tt)
    tt in (
      fs,
      merges_one fs bytes w,
      record {
        code = code_back status_field.code refl fs m.code own_1 sound.0;
        message = string_back status_field.message refl fs m.message own_2 sound.1;
      },
    )

pub node_back : (m : NodeMessage) (bytes : List ℕ) → IsSoundNode m → NodeWritten m bytes
    → IsNode (bytes ∷ []) m
node_back m bytes sound w =
    let fs : List Wire = in_row ((string_fields node_field.id m.id) ∷ (string_fields node_field.cluster m.cluster) ∷ []) in
    let own_1 : payloads node_field.id fs ≡ payloads node_field.id (string_fields node_field.id m.id) =
    picks_own len_in node_field.id ([]) (string_fields node_field.id m.id) ((string_fields node_field.cluster m.cluster) ∷ [])
    tt
    (string_other len_in node_field.id node_field.cluster m.cluster refl, tt) in
    let own_2 : payloads node_field.cluster fs ≡ payloads node_field.cluster (string_fields node_field.cluster m.cluster) =
    picks_own len_in node_field.cluster ((string_fields node_field.id m.id) ∷ []) (string_fields node_field.cluster m.cluster) ([])
    (string_other len_in node_field.cluster node_field.id m.id refl, tt)
    tt in (
      fs,
      merges_one fs bytes w,
      record {
        id = string_back node_field.id refl fs m.id own_1 sound.0;
        cluster = string_back node_field.cluster refl fs m.cluster own_2 sound.1;
      },
    )

-- which payloads of the fields are the request's
pub record OfRequest (m : RequestMessage) (node error_detail fs : List Wire) : Type 0 where
  pub of_version_info : payloads request_field.version_info fs ≡ payloads request_field.version_info (string_fields request_field.version_info m.version_info)
  pub of_node : payloads request_field.node fs ≡ payloads request_field.node (node)
  pub of_resource_names : payloads request_field.resource_names fs ≡ payloads request_field.resource_names (strings_fields request_field.resource_names m.resource_names)
  pub of_type_url : payloads request_field.type_url fs ≡ payloads request_field.type_url (string_fields request_field.type_url m.type_url)
  pub of_response_nonce : payloads request_field.response_nonce fs ≡ payloads request_field.response_nonce (string_fields request_field.response_nonce m.response_nonce)
  pub of_error_detail : payloads request_field.error_detail fs ≡ payloads request_field.error_detail (error_detail)

-- the fields of a request that is written
abbrev pub request_row : RequestMessage → List Wire → List Wire → List Wire
request_row m node error_detail =
    in_row ((string_fields request_field.version_info m.version_info) ∷ node ∷ (strings_fields request_field.resource_names m.resource_names) ∷ (string_fields request_field.type_url m.type_url) ∷ (string_fields request_field.response_nonce m.response_nonce) ∷ error_detail ∷ [])

pub request_own : (m : RequestMessage) (bytes : List ℕ) (w : RequestWritten m bytes)
    → OfRequest m w.node w.error_detail (request_row m w.node w.error_detail)
request_own m bytes w = record {
  of_version_info = picks_own len_in request_field.version_info ([]) (string_fields request_field.version_info m.version_info) (w.node ∷ (strings_fields request_field.resource_names m.resource_names) ∷ (string_fields request_field.type_url m.type_url) ∷ (string_fields request_field.response_nonce m.response_nonce) ∷ w.error_detail ∷ [])
      tt
      (optional_other len_in request_field.version_info NodeWritten request_field.node m.node w.node w.node_fields refl, (strings_other len_in request_field.version_info request_field.resource_names m.resource_names refl, (string_other len_in request_field.version_info request_field.type_url m.type_url refl, (string_other len_in request_field.version_info request_field.response_nonce m.response_nonce refl, (optional_other len_in request_field.version_info StatusWritten request_field.error_detail m.error_detail w.error_detail w.error_fields refl, tt)))));
  of_node = picks_own len_in request_field.node ((string_fields request_field.version_info m.version_info) ∷ []) (w.node) ((strings_fields request_field.resource_names m.resource_names) ∷ (string_fields request_field.type_url m.type_url) ∷ (string_fields request_field.response_nonce m.response_nonce) ∷ w.error_detail ∷ [])
      (string_other len_in request_field.node request_field.version_info m.version_info refl, tt)
      (strings_other len_in request_field.node request_field.resource_names m.resource_names refl, (string_other len_in request_field.node request_field.type_url m.type_url refl, (string_other len_in request_field.node request_field.response_nonce m.response_nonce refl, (optional_other len_in request_field.node StatusWritten request_field.error_detail m.error_detail w.error_detail w.error_fields refl, tt))));
  of_resource_names = picks_own len_in request_field.resource_names ((string_fields request_field.version_info m.version_info) ∷ w.node ∷ []) (strings_fields request_field.resource_names m.resource_names) ((string_fields request_field.type_url m.type_url) ∷ (string_fields request_field.response_nonce m.response_nonce) ∷ w.error_detail ∷ [])
      (string_other len_in request_field.resource_names request_field.version_info m.version_info refl, (optional_other len_in request_field.resource_names NodeWritten request_field.node m.node w.node w.node_fields refl, tt))
      (string_other len_in request_field.resource_names request_field.type_url m.type_url refl, (string_other len_in request_field.resource_names request_field.response_nonce m.response_nonce refl, (optional_other len_in request_field.resource_names StatusWritten request_field.error_detail m.error_detail w.error_detail w.error_fields refl, tt)));
  of_type_url = picks_own len_in request_field.type_url ((string_fields request_field.version_info m.version_info) ∷ w.node ∷ (strings_fields request_field.resource_names m.resource_names) ∷ []) (string_fields request_field.type_url m.type_url) ((string_fields request_field.response_nonce m.response_nonce) ∷ w.error_detail ∷ [])
      (string_other len_in request_field.type_url request_field.version_info m.version_info refl, (optional_other len_in request_field.type_url NodeWritten request_field.node m.node w.node w.node_fields refl, (strings_other len_in request_field.type_url request_field.resource_names m.resource_names refl, tt)))
      (string_other len_in request_field.type_url request_field.response_nonce m.response_nonce refl, (optional_other len_in request_field.type_url StatusWritten request_field.error_detail m.error_detail w.error_detail w.error_fields refl, tt));
  of_response_nonce = picks_own len_in request_field.response_nonce ((string_fields request_field.version_info m.version_info) ∷ w.node ∷ (strings_fields request_field.resource_names m.resource_names) ∷ (string_fields request_field.type_url m.type_url) ∷ []) (string_fields request_field.response_nonce m.response_nonce) (w.error_detail ∷ [])
      (string_other len_in request_field.response_nonce request_field.version_info m.version_info refl, (optional_other len_in request_field.response_nonce NodeWritten request_field.node m.node w.node w.node_fields refl, (strings_other len_in request_field.response_nonce request_field.resource_names m.resource_names refl, (string_other len_in request_field.response_nonce request_field.type_url m.type_url refl, tt))))
      (optional_other len_in request_field.response_nonce StatusWritten request_field.error_detail m.error_detail w.error_detail w.error_fields refl, tt);
  of_error_detail = picks_own len_in request_field.error_detail ((string_fields request_field.version_info m.version_info) ∷ w.node ∷ (strings_fields request_field.resource_names m.resource_names) ∷ (string_fields request_field.type_url m.type_url) ∷ (string_fields request_field.response_nonce m.response_nonce) ∷ []) (w.error_detail) ([])
      (string_other len_in request_field.error_detail request_field.version_info m.version_info refl, (optional_other len_in request_field.error_detail NodeWritten request_field.node m.node w.node w.node_fields refl, (strings_other len_in request_field.error_detail request_field.resource_names m.resource_names refl, (string_other len_in request_field.error_detail request_field.type_url m.type_url refl, (string_other len_in request_field.error_detail request_field.response_nonce m.response_nonce refl, tt)))))
      tt;
}

pub request_back : (m : RequestMessage) (bytes : List ℕ) → IsSoundRequest m → RequestWritten m bytes
    → IsRequest bytes m
request_back m bytes sound w =
    let fs : List Wire = request_row m w.node w.error_detail in
    let own = request_own m bytes w in (
      fs,
      merges_one fs bytes w.spells,
      record {
        version_info = string_back request_field.version_info refl fs m.version_info own.of_version_info sound.version_info;
        node = merged_back request_field.node refl IsNode NodeWritten IsSoundNode node_back fs w.node m.node own.of_node w.node_fields sound.node;
        resource_names = strings_back request_field.resource_names refl fs m.resource_names own.of_resource_names sound.resource_names;
        type_url = string_back request_field.type_url refl fs m.type_url own.of_type_url sound.type_url;
        response_nonce = string_back request_field.response_nonce refl fs m.response_nonce own.of_response_nonce sound.response_nonce;
        error_detail = merged_back request_field.error_detail refl IsStatus StatusWritten IsSoundStatus status_back fs w.error_detail m.error_detail own.of_error_detail w.error_fields sound.error_detail;
      },
    )

-- which payloads of the fields are the response's
pub record OfResponse (m : ResponseMessage) (resources fs : List Wire) : Type 0 where
  pub of_version_info : payloads response_field.version_info fs ≡ payloads response_field.version_info (string_fields response_field.version_info m.version_info)
  pub of_resources : payloads response_field.resources fs ≡ payloads response_field.resources (resources)
  pub of_type_url : payloads response_field.type_url fs ≡ payloads response_field.type_url (string_fields response_field.type_url m.type_url)
  pub of_nonce : payloads response_field.nonce fs ≡ payloads response_field.nonce (string_fields response_field.nonce m.nonce)

-- the fields of a response that is written
abbrev pub response_row : ResponseMessage → List Wire → List Wire
response_row m resources =
    in_row ((string_fields response_field.version_info m.version_info) ∷ resources ∷ (string_fields response_field.type_url m.type_url) ∷ (string_fields response_field.nonce m.nonce) ∷ [])

pub response_own : (m : ResponseMessage) (bytes : List ℕ) (w : ResponseWritten m bytes)
    → OfResponse m w.resources (response_row m w.resources)
response_own m bytes w = record {
  of_version_info = picks_own len_in response_field.version_info ([]) (string_fields response_field.version_info m.version_info) (w.resources ∷ (string_fields response_field.type_url m.type_url) ∷ (string_fields response_field.nonce m.nonce) ∷ [])
      tt
      (each_other len_in response_field.version_info AnyWritten response_field.resources m.resources w.resources w.resource_fields refl, (string_other len_in response_field.version_info response_field.type_url m.type_url refl, (string_other len_in response_field.version_info response_field.nonce m.nonce refl, tt)));
  of_resources = picks_own len_in response_field.resources ((string_fields response_field.version_info m.version_info) ∷ []) (w.resources) ((string_fields response_field.type_url m.type_url) ∷ (string_fields response_field.nonce m.nonce) ∷ [])
      (string_other len_in response_field.resources response_field.version_info m.version_info refl, tt)
      (string_other len_in response_field.resources response_field.type_url m.type_url refl, (string_other len_in response_field.resources response_field.nonce m.nonce refl, tt));
  of_type_url = picks_own len_in response_field.type_url ((string_fields response_field.version_info m.version_info) ∷ w.resources ∷ []) (string_fields response_field.type_url m.type_url) ((string_fields response_field.nonce m.nonce) ∷ [])
      (string_other len_in response_field.type_url response_field.version_info m.version_info refl, (each_other len_in response_field.type_url AnyWritten response_field.resources m.resources w.resources w.resource_fields refl, tt))
      (string_other len_in response_field.type_url response_field.nonce m.nonce refl, tt);
  of_nonce = picks_own len_in response_field.nonce ((string_fields response_field.version_info m.version_info) ∷ w.resources ∷ (string_fields response_field.type_url m.type_url) ∷ []) (string_fields response_field.nonce m.nonce) ([])
      (string_other len_in response_field.nonce response_field.version_info m.version_info refl, (each_other len_in response_field.nonce AnyWritten response_field.resources m.resources w.resources w.resource_fields refl, (string_other len_in response_field.nonce response_field.type_url m.type_url refl, tt)))
      tt;
}

pub response_back : (m : ResponseMessage) (bytes : List ℕ) → IsSoundResponse m → ResponseWritten m bytes
    → IsResponse bytes m
response_back m bytes sound w =
    let fs : List Wire = response_row m w.resources in
    let own = response_own m bytes w in (
      fs,
      merges_one fs bytes w.spells,
      record {
        version_info = string_back response_field.version_info refl fs m.version_info own.of_version_info sound.version_info;
        resources = repeated_back response_field.resources refl IsAny AnyWritten IsSoundAny any_back fs w.resources m.resources own.of_resources w.resource_fields sound.resources;
        type_url = string_back response_field.type_url refl fs m.type_url own.of_type_url sound.type_url;
        nonce = string_back response_field.nonce refl fs m.nonce own.of_nonce sound.nonce;
      },
    )

pub extension_back : (m : ExtensionMessage) (bytes : List ℕ) → IsSoundExtension m → ExtensionWritten m bytes
    → IsExtension bytes m
extension_back m bytes sound w =
    let fs : List Wire = in_row ((string_fields extension_field.name m.name) ∷ w.typed_config ∷ []) in
    let own_1 : payloads extension_field.name fs ≡ payloads extension_field.name (string_fields extension_field.name m.name) =
    picks_own len_in extension_field.name ([]) (string_fields extension_field.name m.name) (w.typed_config ∷ [])
    tt
    (optional_other len_in extension_field.name AnyWritten extension_field.typed_config m.typed_config w.typed_config w.config_fields refl, tt) in
    let own_2 : payloads extension_field.typed_config fs ≡ payloads extension_field.typed_config (w.typed_config) =
    picks_own len_in extension_field.typed_config ((string_fields extension_field.name m.name) ∷ []) (w.typed_config) ([])
    (string_other len_in extension_field.typed_config extension_field.name m.name refl, tt)
    tt in (
      fs,
      merges_one fs bytes w.spells,
      record {
        name = string_back extension_field.name refl fs m.name own_1 sound.name;
        typed_config = merged_back extension_field.typed_config refl IsAny AnyWritten IsSoundAny any_back fs w.typed_config m.typed_config own_2 w.config_fields sound.typed_config;
      },
    )

-- ---- one way to write a message

optional_one : {M : Type 0} (Written : M → List ℕ → Type 0)
    → ((m : M) (a b : List ℕ) → Written m a → Written m b → a ≡ b) → (k : ℕ) (o : Option M)
    (fs gs : List Wire) → AreOptional Written k o fs → AreOptional Written k o gs → fs ≡ gs
optional_one Written one k None fs gs a b = a ∙ sym b
optional_one Written one k (Some m) fs gs (x, is, whole) (y, is', whole') =
    whole ∙ ap (λ bytes. field_of k (len bytes) ∷ []) (one m x y is is') ∙ sym whole'

each_one : {M : Type 0} (Written : M → List ℕ → Type 0)
    → ((m : M) (a b : List ℕ) → Written m a → Written m b → a ≡ b) → (k : ℕ) (ms : List M)
    (fs gs : List Wire) → AreEach Written k ms fs → AreEach Written k ms gs → fs ≡ gs
each_one Written one k [] fs gs a b = a ∙ sym b
each_one Written one k (m ∷ ms) fs gs (x, xs, is, more, whole) (y, ys, is', more', whole') =
    whole
    ∙ ap₂ (λ (bytes : List ℕ) (rest : List Wire). field_of k (len bytes) ∷ rest)
    (one m x y is is') (each_one Written one k ms xs ys more more')
    ∙ sym whole'

pub any_written_unique : (m : AnyMessage) (a b : List ℕ) → AnyWritten m a → AnyWritten m b → a ≡ b
any_written_unique m = shortest_unique (in_row ((string_fields any_field.type_url m.type_url) ∷ (string_fields any_field.value m.value) ∷ []))

pub status_written_unique : (m : StatusMessage) (a b : List ℕ) → StatusWritten m a → StatusWritten m b → a ≡ b
status_written_unique m = shortest_unique (in_row ((int32_fields status_field.code m.code) ∷ (string_fields status_field.message m.message) ∷ []))

pub node_written_unique : (m : NodeMessage) (a b : List ℕ) → NodeWritten m a → NodeWritten m b → a ≡ b
node_written_unique m = shortest_unique (in_row ((string_fields node_field.id m.id) ∷ (string_fields node_field.cluster m.cluster) ∷ []))

pub request_written_unique : (m : RequestMessage) (a b : List ℕ) → RequestWritten m a → RequestWritten m b → a ≡ b
request_written_unique m a b w v =
    let node' = optional_one NodeWritten node_written_unique request_field.node m.node v.node w.node v.node_fields w.node_fields in
    let error_detail' = optional_one StatusWritten status_written_unique request_field.error_detail m.error_detail v.error_detail w.error_detail v.error_fields w.error_fields in
    let row : List Wire → List Wire → List Wire = λ x y. in_row ((string_fields request_field.version_info m.version_info) ∷ x ∷ (strings_fields request_field.resource_names m.resource_names) ∷ (string_fields request_field.type_url m.type_url) ∷ (string_fields request_field.response_nonce m.response_nonce) ∷ y ∷ []) in
    let same : row v.node v.error_detail ≡ row w.node w.error_detail = ap₂ row node' error_detail' in
    let also : Shortest (row w.node w.error_detail) b = subst (λ fs. Shortest fs b) same v.spells in
    shortest_unique (row w.node w.error_detail) a b w.spells also

pub response_written_unique : (m : ResponseMessage) (a b : List ℕ) → ResponseWritten m a → ResponseWritten m b → a ≡ b
response_written_unique m a b w v =
    let resources' = each_one AnyWritten any_written_unique response_field.resources m.resources v.resources w.resources v.resource_fields w.resource_fields in
    let row : List Wire → List Wire = λ x. in_row ((string_fields response_field.version_info m.version_info) ∷ x ∷ (string_fields response_field.type_url m.type_url) ∷ (string_fields response_field.nonce m.nonce) ∷ []) in
    let same : row v.resources ≡ row w.resources = ap row resources' in
    let also : Shortest (row w.resources) b = subst (λ fs. Shortest fs b) same v.spells in
    shortest_unique (row w.resources) a b w.spells also

pub extension_written_unique : (m : ExtensionMessage) (a b : List ℕ) → ExtensionWritten m a → ExtensionWritten m b → a ≡ b
extension_written_unique m a b w v =
    let typed_config' = optional_one AnyWritten any_written_unique extension_field.typed_config m.typed_config v.typed_config w.typed_config v.config_fields w.config_fields in
    let row : List Wire → List Wire = λ x. in_row ((string_fields extension_field.name m.name) ∷ x ∷ []) in
    let same : row v.typed_config ≡ row w.typed_config = ap row typed_config' in
    let also : Shortest (row w.typed_config) b = subst (λ fs. Shortest fs b) same v.spells in
    shortest_unique (row w.typed_config) a b w.spells also
