-- What reads of the bytes that were written of a message has that message's texts.
use Rattle.std.proofs.Common.{◌≡◌, ◌↔◌, ℕ, ◌==◌, true, Option, Some, None, List, [], ◌∷◌, refl, sym, ap, subst, ◌∙◌}
use Rattle.proto_wire.specs.Fields.{Wire}
use Rattle.proto_wire.specs.Merge.{Merges}
use Rattle.proto_wire.specs.Values.{payloads}
use Rattle.proto_wire.proofs.Unique.{merges_unique}
use Rattle.proto_wire.specs.Reading.{IsOptional}
use Rattle.xds_wire.specs.Envelope.{IsEnvelope}
use Rattle.xds_wire.specs.Discovery.{IsStatus, RequestMessage, AreRequestFields, IsRequest, ResponseMessage, AreResponseFields, IsResponse, request_field, response_field}
use Rattle.xds_wire.specs.Written.{AreOptional, StatusWritten, RequestWritten, ResponseWritten}
use Rattle.xds_wire.proofs.GroupValues.{bytes_back, strings_own, one_len}
use Rattle.xds_wire.proofs.ReadBack.{merges_one, request_row, request_own, response_row, response_own}

-- the fields that are read are those that were written
read_fields : {M : Type 0} (Table : List Wire → M → Type 0) (fs : List Wire) (bytes : List ℕ) (m : M)
    → Merges (bytes ∷ []) fs → IsEnvelope Table (bytes ∷ []) m → Table fs m
read_fields Table fs bytes m written (gs, merged, is) =
    subst (λ xs. Table xs m) (merges_unique (bytes ∷ []) gs fs merged written) is

-- a message is read where one was written
merged_some : {M N : Type 0} (Is : List (List ℕ) → M → Type 0) (Written : N → List ℕ → Type 0) (k : ℕ)
    → (k == k) ≡ true → (fs group : List Wire) (o : Option N) (p : Option M)
    → payloads k fs ≡ payloads k group → AreOptional Written k o group → IsOptional Is k fs p
    → (p ≡ None) ↔ (o ≡ None)
merged_some Is Written k is fs group None None same none is' = ((λ e. refl), (λ e. refl))
merged_some Is Written k is fs group None (Some m) same none (some, is') =
    absurd (some (same ∙ ap (payloads k) none))
merged_some Is Written k is fs group (Some n) None same (bytes, written, whole) none =
    let own : payloads k fs ≡ bytes ∷ [] = same ∙ ap (payloads k) whole ∙ one_len k is bytes in
    absurd (cc (own, none))
merged_some Is Written k is fs group (Some n) (Some m) same written is' = ((λ e. absurd cc), (λ e. absurd cc))

-- what a request is read as has these texts
pub request_as_written : (m n : RequestMessage) (bytes : List ℕ) → RequestWritten m bytes → IsRequest bytes n
    → (n.version_info ≡ m.version_info) × (n.resource_names ≡ m.resource_names) × (n.type_url ≡ m.type_url)
    × (n.response_nonce ≡ m.response_nonce) × ((n.error_detail ≡ None) ↔ (m.error_detail ≡ None))
request_as_written m n bytes w read =
    let fs : List Wire = request_row m w.node w.error_detail in
    let own = request_own m bytes w in
    let is = read_fields AreRequestFields fs bytes n (merges_one fs bytes w.spells) read in (
      is.version_info.0 ∙ sym (bytes_back request_field.version_info refl fs m.version_info own.of_version_info),
      is.resource_names.0 ∙ own.of_resource_names ∙ strings_own request_field.resource_names refl m.resource_names,
      is.type_url.0 ∙ sym (bytes_back request_field.type_url refl fs m.type_url own.of_type_url),
      is.response_nonce.0 ∙ sym (bytes_back request_field.response_nonce refl fs m.response_nonce own.of_response_nonce),
      merged_some IsStatus StatusWritten request_field.error_detail refl fs w.error_detail m.error_detail n.error_detail
          own.of_error_detail w.error_fields is.error_detail,
    )

-- what a response is read as has these texts
pub response_as_written : (m n : ResponseMessage) (bytes : List ℕ) → ResponseWritten m bytes → IsResponse bytes n
    → (n.version_info ≡ m.version_info) × (n.type_url ≡ m.type_url) × (n.nonce ≡ m.nonce)
response_as_written m n bytes w read =
    let fs : List Wire = response_row m w.resources in
    let own = response_own m bytes w in
    let is = read_fields AreResponseFields fs bytes n (merges_one fs bytes w.spells) read in (
      is.version_info.0 ∙ sym (bytes_back response_field.version_info refl fs m.version_info own.of_version_info),
      is.type_url.0 ∙ sym (bytes_back response_field.type_url refl fs m.type_url own.of_type_url),
      is.nonce.0 ∙ sym (bytes_back response_field.nonce refl fs m.nonce own.of_nonce),
    )
