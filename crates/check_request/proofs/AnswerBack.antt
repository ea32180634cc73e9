-- What is written of an answer reads back, as this answer.
use Rattle.std.proofs.Common.{◌≡◌, ◌≢◌, ℕ, ◌==◌, ◌<◌, ◌%◌, ◌^◌, true, List, [], ◌∷◌, inl, inr, refl, sym, subst, ◌∙◌, arith}
use Rattle.std.specs.List.{AllByRecursion}
use Rattle.std.proofs.lemmas.Bool.{cases_Bool, eqb-true}
use Rattle.attributes.specs.Headers.{Entry as Line}
use Rattle.http_front.specs.declared.answer.Case.TheVariants as cases
use Rattle.http_front.specs.declared.fault.HeadFault.{HeadFault}
use Rattle.http_front.specs.declared.fault.HeadFault.TheVariants as faults
use Rattle.http_front.specs.Head.{fault_status}
use Rattle.proto_wire.specs.Fields.{Wire}
use Rattle.proto_wire.specs.Merge.{Merges}
use Rattle.proto_wire.specs.Values.{bytes_at, len_in, payloads}
use Rattle.xds_wire.specs.Envelope.{AreRepeated}
use Rattle.xds_wire.specs.Written.{AreEach, string_fields, strings_fields}
use Rattle.xds_wire.proofs.GroupValues.{bytes_back, repeated_back, strings_own}
use Rattle.xds_wire.proofs.Groups.{each_other, in_row, picks_own, string_other, strings_other}
use Rattle.xds_wire.proofs.ReadBack.{merges_one}
use Rattle.check_request.specs.Answers.{AnswerWritten, CodeWritten, IsAnswer, IsCode, IsResponse, IsSet, OptionWritten, ResponseWritten, allowed, answer_of, body_of, code_field, code_of, denied, denied_field, message_fields, number_fields, ok_field, option_field, overwrite, response_field, status_of}
use Rattle.check_request.specs.Numbers.{header_field}
use Rattle.check_request.specs.declared.outcome.Outcome.{Outcome}
use Rattle.check_request.specs.declared.outcome.Outcome.TheVariants.{Judged, Unread}

-- ---- codes

code_back : (code : ℕ) (bytes : List ℕ) → code < 2 ^ 32 → CodeWritten code bytes → IsCode (bytes ∷ []) code
code_back code bytes fits spells =
    let fs : List Wire = in_row (number_fields code_field code ∷ []) in (
      fs,
      merges_one fs bytes spells,
      elim (cases_Bool (code == 0)) [
        | inl none ↦ rw none (eqb-true code 0 none)
        | inr some ↦ let same : code ≡ code % 2 ^ 32 = omega arith in rw some same
      ],
    )

-- ---- headers

-- the fields of a header that is written
abbrev header_row : Line → List Wire
header_row line =
    in_row (string_fields header_field.key line.0 ∷ string_fields header_field.value line.1 ∷ [])

header_back : (line : Line)
    → line ≡ (bytes_at header_field.key (header_row line), bytes_at header_field.value (header_row line))
header_back line =
    let fs : List Wire = header_row line in
    let keys : payloads header_field.key fs ≡ payloads header_field.key (string_fields header_field.key line.0) =
    picks_own len_in header_field.key [] (string_fields header_field.key line.0)
    (string_fields header_field.value line.1 ∷ []) tt
    (string_other len_in header_field.key header_field.value line.1 refl, tt) in
    let values : payloads header_field.value fs ≡ payloads header_field.value (string_fields header_field.value line.1) =
    picks_own len_in header_field.value (string_fields header_field.key line.0 ∷ [])
    (string_fields header_field.value line.1) []
    (string_other len_in header_field.value header_field.key line.0 refl, tt) tt in
    let name : line.0 ≡ bytes_at header_field.key fs = bytes_back header_field.key refl fs line.0 keys in
    let value : line.1 ≡ bytes_at header_field.value fs = bytes_back header_field.value refl fs line.1 values in
    λ i. (name i, value i)

option_back : (line : Line) (bytes : List ℕ) → OptionWritten line bytes → IsSet (bytes ∷ []) line
option_back line bytes (header, written, spells) =
    let fs : List Wire =
    in_row (message_fields option_field.header header ∷ number_fields option_field.append_action overwrite ∷ []) in
    (fs, header_row line, merges_one fs bytes spells, merges_one (header_row line) header written, header_back line, refl)

all_lines : (set : List Line) → AllByRecursion (λ (line : Line). Unit {0}) set
all_lines [] = tt
all_lines (line ∷ set) = (tt, all_lines set)

module _ (k : ℕ) (is : (k == k) ≡ true) (set : List Line) where
  sets_back : (fs options : List Wire) → payloads k fs ≡ payloads k options → AreEach OptionWritten k set options
      → AreRepeated IsSet k fs set
  sets_back fs options same each =
      repeated_back k is IsSet OptionWritten (λ line. Unit {0}) (λ line bytes sound written. option_back line bytes written)
      fs options set same each (all_lines set)

-- ---- the members of the oneof

-- the fields of an OkHttpResponse that is written
abbrev ok_row : List Wire → List (List ℕ) → List Wire
ok_row options remove = in_row (options ∷ strings_fields ok_field.headers_to_remove remove ∷ [])

ok_sets : (set : List Line) (remove : List (List ℕ)) (options : List Wire)
    → AreEach OptionWritten ok_field.headers set options
    → AreRepeated IsSet ok_field.headers (ok_row options remove) set
ok_sets set remove options each =
    sets_back ok_field.headers refl set (ok_row options remove) options
    (picks_own len_in ok_field.headers [] options (strings_fields ok_field.headers_to_remove remove ∷ []) tt
    (strings_other len_in ok_field.headers ok_field.headers_to_remove remove refl, tt)) each

ok_removes : (set : List Line) (remove : List (List ℕ)) (options : List Wire)
    → AreEach OptionWritten ok_field.headers set options
    → remove ≡ payloads ok_field.headers_to_remove (ok_row options remove)
ok_removes set remove options each =
    sym (picks_own len_in ok_field.headers_to_remove (options ∷ []) (strings_fields ok_field.headers_to_remove remove) []
    (each_other len_in ok_field.headers_to_remove OptionWritten ok_field.headers set options each refl, tt) tt
    ∙ strings_own ok_field.headers_to_remove refl remove)

-- the fields of a DeniedHttpResponse that is written
abbrev denied_row : (http : List ℕ) → List Wire → (body : List ℕ) → List Wire
denied_row http options body =
    in_row (message_fields denied_field.status http ∷ options ∷ string_fields denied_field.body body ∷ [])

module _ (http : List ℕ) (set : List Line) (options : List Wire) (body : List ℕ)
    (each : AreEach OptionWritten denied_field.headers set options) where
  denied_status : payloads denied_field.status (denied_row http options body) ≡ http ∷ []
  denied_status =
      picks_own len_in denied_field.status [] (message_fields denied_field.status http)
      (options ∷ string_fields denied_field.body body ∷ []) tt (
        each_other len_in denied_field.status OptionWritten denied_field.headers set options each refl,
        (string_other len_in denied_field.status denied_field.body body refl, tt),
      )

  denied_sets : AreRepeated IsSet denied_field.headers (denied_row http options body) set
  denied_sets =
      sets_back denied_field.headers refl set (denied_row http options body) options
      (picks_own len_in denied_field.headers (message_fields denied_field.status http ∷ []) options
      (string_fields denied_field.body body ∷ []) (refl, tt)
      (string_other len_in denied_field.headers denied_field.body body refl, tt)) each

  denied_body : body ≡ bytes_at denied_field.body (denied_row http options body)
  denied_body =
      bytes_back denied_field.body refl (denied_row http options body) body
      (picks_own len_in denied_field.body (message_fields denied_field.status http ∷ options ∷ [])
      (string_fields denied_field.body body) []
      (refl, (each_other len_in denied_field.body OptionWritten denied_field.headers set options each refl, tt)) tt)

-- ---- answers

ok_response_back : (code : ℕ) (inner bytes : List ℕ) (ifs : List Wire) → code < 2 ^ 32 → Merges (inner ∷ []) ifs
    → ResponseWritten code response_field.ok_response inner bytes
    → IsResponse bytes code response_field.ok_response ifs
ok_response_back code inner bytes ifs fits merged (status, written, spells) =
    let fs : List Wire =
    in_row (message_fields response_field.status status ∷ message_fields response_field.ok_response inner ∷ []) in
    (fs, merges_one fs bytes spells, code_back code status fits written, refl, merged)

denied_response_back : (code : ℕ) (inner bytes : List ℕ) (ifs : List Wire) → code < 2 ^ 32 → Merges (inner ∷ []) ifs
    → ResponseWritten code response_field.denied_response inner bytes
    → IsResponse bytes code response_field.denied_response ifs
denied_response_back code inner bytes ifs fits merged (status, written, spells) =
    let fs : List Wire =
    in_row (message_fields response_field.status status ∷ message_fields response_field.denied_response inner ∷ []) in
    (fs, merges_one fs bytes spells, code_back code status fits written, refl, merged)

allowed_back : (set : List Line) (remove : List (List ℕ)) (bytes : List ℕ) → AnswerWritten (allowed set remove) bytes
    → IsAnswer bytes (allowed set remove)
allowed_back set remove bytes (inner, (options, each, spells), response) =
    let fs : List Wire = ok_row options remove in (
      fs,
      ok_response_back 0 inner bytes fs (omega arith) (merges_one fs inner spells) response,
      ok_sets set remove options each,
      ok_removes set remove options each,
    )

denied_back : (code status : ℕ) (set : List Line) (body bytes : List ℕ) → code ≢ 0 → code < 2 ^ 32 → status < 2 ^ 32
    → AnswerWritten (denied code status set body) bytes → IsAnswer bytes (denied code status set body)
denied_back code status set body bytes some fits fits' (inner, (http, options, written, each, spells), response) =
    let fs : List Wire = denied_row http options body in
    let own = denied_status http set options body each in (
      fs,
      some,
      denied_response_back code inner bytes fs fits (merges_one fs inner spells) response,
      subst (λ parts. IsCode parts status) (sym own) (code_back status http fits' written),
      denied_sets http set options body each,
      denied_body http set options body each,
    )

-- ---- outcomes

code_fits : (outcome : Outcome) → code_of outcome < 2 ^ 32
code_fits (Judged cases.Allow) = omega arith
code_fits (Judged cases.Deny) = omega arith
code_fits (Judged cases.Steps) = omega arith
code_fits (Judged cases.Unready) = omega arith
code_fits (Judged cases.Memory) = omega arith
code_fits (Judged (cases.Fault fault)) = omega arith
code_fits Unread = omega arith

fault_fits : (fault : HeadFault) → fault_status fault < 2 ^ 32
fault_fits (faults.Malformed part) = omega arith
fault_fits faults.Unfinished = omega arith
fault_fits faults.TooLong = omega arith
fault_fits faults.OtherForm = omega arith
fault_fits faults.BadText = omega arith
fault_fits faults.NoHost = omega arith
fault_fits faults.TwoHosts = omega arith
fault_fits faults.TwoLengths = omega arith
fault_fits faults.BadLength = omega arith
fault_fits faults.TransferCoding = omega arith
fault_fits faults.OutsideLimits = omega arith

status_fits : (outcome : Outcome) → status_of outcome < 2 ^ 32
status_fits (Judged cases.Allow) = omega arith
status_fits (Judged cases.Deny) = omega arith
status_fits (Judged cases.Steps) = omega arith
status_fits (Judged cases.Unready) = omega arith
status_fits (Judged cases.Memory) = omega arith
status_fits (Judged (cases.Fault fault)) = fault_fits fault
status_fits Unread = omega arith

pub answer_back : (outcome : Outcome) (set : List Line) (remove : List (List ℕ)) (bytes : List ℕ)
    → AnswerWritten (answer_of outcome set remove) bytes → IsAnswer bytes (answer_of outcome set remove)
answer_back outcome set remove bytes = elim (cases_Bool (code_of outcome == 0)) [
  | inl none ↦ rw none (allowed_back set remove bytes)
  | inr some ↦
      let other : code_of outcome ≢ 0 = λ zero. absurd (cc (zero, some)) in
      rw some (denied_back (code_of outcome) (status_of outcome) set (body_of outcome) bytes other (code_fits outcome)
      (status_fits outcome))
]
