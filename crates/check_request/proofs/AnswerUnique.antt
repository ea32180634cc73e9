-- Bytes are one answer at most.
use Rattle.std.proofs.Common.{◌≡◌, ℕ, List, [], ◌∷◌, Some, sym, ap, ap₂, ◌∙◌}
use Rattle.attributes.specs.Headers.{Entry as Line}
use Rattle.proto_wire.specs.Fields.{Wire}
use Rattle.proto_wire.specs.Merge.{Merges}
use Rattle.proto_wire.specs.Oneof.{last_number, member_run}
use Rattle.proto_wire.specs.Values.{bytes_at, payloads, uint32_at}
use Rattle.proto_wire.proofs.OptionalLaws.{IsUnique}
use Rattle.proto_wire.proofs.Unique.{merges_unique}
use Rattle.xds_wire.proofs.EnvelopeLemmas.{repeated_unique}
use Rattle.check_request.specs.Answers.{AnswerValue, IsAnswer, IsCode, IsResponse, IsSet, allowed, code_field, denied, denied_field, ok_field, option_field, response_field, response_keys}
use Rattle.check_request.specs.Numbers.{header_field}

code_unique : (parts : List (List ℕ)) (m n : ℕ) → IsCode parts m → IsCode parts n → m ≡ n
code_unique parts m n (fs, merged, is) (gs, also, is') =
    is ∙ ap (uint32_at code_field) (merges_unique parts fs gs merged also) ∙ sym is'

set_unique : IsUnique IsSet
set_unique parts l m (fs, header, merged, inner, is, action) (gs, header', also, inner', is', action') =
    let same = merges_unique parts gs fs also merged in
    let headers = merges_unique (payloads option_field.header fs) header' header (rw same at inner') inner in
    let line : List Wire → Line = λ hs. (bytes_at header_field.key hs, bytes_at header_field.value hs) in
    is ∙ sym (ap line headers) ∙ sym is'

-- the number of the oneof and its fields, and the code
module _ (bytes : List ℕ) (code code' k k' : ℕ) (inner inner' : List Wire)
    (a : IsResponse bytes code k inner) (b : IsResponse bytes code' k' inner') where
  same_whole : b.0 ≡ a.0
  same_whole = merges_unique (bytes ∷ []) b.0 a.0 b.1 a.1

  pub same_code : code ≡ code'
  same_code = code_unique (payloads response_field.status a.0) code code' a.2 (rw same_whole at b.2)

  pub same_number : k ≡ k'
  same_number =
      let here : last_number response_keys a.0 ≡ Some k = a.3 in
      let there : last_number response_keys a.0 ≡ Some k' = rw same_whole at b.3 in
      cc

  pub same_inner : inner' ≡ inner
  same_inner =
      let there : Merges (payloads k' (member_run response_keys a.0)) inner' = rw same_whole at b.4 in
      merges_unique (payloads k (member_run response_keys a.0)) inner' inner (rw (sym same_number) at there) a.4

pub answer_unique : (bytes : List ℕ) (a b : AnswerValue) → IsAnswer bytes a → IsAnswer bytes b → a ≡ b
answer_unique bytes (allowed set remove) (allowed set' remove') (fs, is, sets, removes) (gs, is', sets', removes') =
    let same = same_inner bytes 0 0 response_field.ok_response response_field.ok_response fs gs is is' in
    ap₂ allowed
    (repeated_unique IsSet set_unique ok_field.headers fs set set' sets (rw same at sets'))
    (removes ∙ sym (rw same at removes'))
answer_unique bytes (denied code status set body) (denied code' status' set' body')
    (fs, some, is, http, sets, bodies) (gs, some', is', http', sets', bodies') =
    let same = same_inner bytes code code' response_field.denied_response response_field.denied_response fs gs is is' in
    let codes : code ≡ code' =
    same_code bytes code code' response_field.denied_response response_field.denied_response fs gs is is' in
    let statuses : status ≡ status' = code_unique (payloads denied_field.status fs) status status' http (rw same at http') in
    let lines : set ≡ set' =
    repeated_unique IsSet set_unique denied_field.headers fs set set' sets (rw same at sets') in
    let texts : body ≡ body' = bodies ∙ sym (rw same at bodies') in
    λ i. denied (codes i) (statuses i) (lines i) (texts i)
answer_unique bytes (allowed set remove) (denied code status set' body) a b =
    absurd (b.1 (sym (same_code bytes 0 code response_field.ok_response response_field.denied_response a.0 b.0 a.1 b.2)))
answer_unique bytes (denied code status set body) (allowed set' remove) a b =
    absurd (a.1 (same_code bytes code 0 response_field.denied_response response_field.ok_response a.0 b.0 a.2 b.1))
