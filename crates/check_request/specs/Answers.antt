-- The answer to a CheckRequest: Envoy v3 `service/auth/v3/external_auth.proto` (CheckResponse, DeniedHttpResponse,
-- OkHttpResponse), `config/core/v3/base.proto` (HeaderValueOption, HeaderValue), `type/v3/http_status.proto` (HttpStatus),
-- `google/rpc/status.proto` (Status), `google/rpc/code.proto` (Code). Fields are in ascending order of number, each
-- number in its shortest spelling, and defaults are left out.
use Rattle.std.specs.Prelude.{◌≡◌, ◌≢◌, ℕ, ◌==◌, List, [], ◌∷◌, Some, if◌then◌else◌}
use Rattle.attributes.specs.Headers.{Entry as Line}
use Rattle.http_front.specs.Answer.{row_of}
use Rattle.http_front.specs.declared.answer.Case.TheVariants as cases
use Rattle.proto_wire.specs.Fields.{Wire, varint, len}
use Rattle.proto_wire.specs.Keys.{len_key}
use Rattle.proto_wire.specs.Merge.{Merges}
use Rattle.proto_wire.specs.Oneof.{last_number, member_run}
use Rattle.proto_wire.specs.Shortest.{field_of}
use Rattle.proto_wire.specs.Values.{bytes_at, payloads, uint32_at}
use Rattle.proto_wire.specs.declared.key.Key.{Key}
use Rattle.proto_wire.specs.declared.refusal.Refusal.TheVariants as refusals
use Rattle.proto_wire.specs.declared.refusal.Refusal.{Refusal}
use Rattle.xds_wire.specs.Envelope.{AreRepeated}
use Rattle.xds_wire.specs.Written.{AreEach, SpellsGroups, string_fields, strings_fields}
use Rattle.check_request.specs.Numbers.{Inner, header_field}
use Rattle.check_request.specs.declared.outcome.Outcome.{Outcome}
use Rattle.check_request.specs.declared.outcome.Outcome.TheVariants.{Judged, Unread}

-- an answer. An allowed request has headers that are set, and names of headers that are removed. A denied one has a code
-- of gRPC, a status of HTTP, headers that are set, and a body
pub data AnswerValue : Type 0 where
  allowed : (set : List Line) (remove : List (List ℕ)) → AnswerValue
  denied : (code status : ℕ) (set : List Line) (body : List ℕ) → AnswerValue

-- ---- outcomes

-- the outcome of a message that is not read
abbrev pub unread_as : Refusal → Outcome
unread_as refusals.Memory = Judged cases.Memory
unread_as refusal = Unread

-- the code of gRPC: OK 0, INVALID_ARGUMENT 3, PERMISSION_DENIED 7, RESOURCE_EXHAUSTED 8, UNAVAILABLE 14
abbrev pub code_of : Outcome → ℕ
code_of (Judged cases.Allow) = 0
code_of (Judged cases.Deny) = 7
code_of (Judged cases.Steps) = 7
code_of (Judged cases.Unready) = 14
code_of (Judged cases.Memory) = 8
code_of (Judged (cases.Fault fault)) = 3
code_of Unread = 3

-- the status of HTTP, as in an answer by HTTP
abbrev pub status_of : Outcome → ℕ
status_of (Judged case) = (row_of case).status
status_of Unread = 400

-- the body, as in an answer by HTTP
abbrev pub body_of : Outcome → List ℕ
body_of (Judged case) = (row_of case).body
body_of Unread = []

-- the answer of an outcome. Headers are set for the application if the request is allowed, and else for the client
abbrev pub answer_of : Outcome → List Line → List (List ℕ) → AnswerValue
answer_of outcome set remove =
    if code_of outcome == 0 then allowed set remove
    else denied (code_of outcome) (status_of outcome) set (body_of outcome)

-- ---- numbers of fields

-- CheckResponse
abbrev pub response_field : record { status : ℕ; denied_response : ℕ; ok_response : ℕ }
response_field = record { status = 1; denied_response = 2; ok_response = 3 }

-- the members of its oneof
abbrev pub response_keys : List Key
response_keys = len_key response_field.denied_response ∷ len_key response_field.ok_response ∷ []

-- DeniedHttpResponse
abbrev pub denied_field : record { status : ℕ; headers : ℕ; body : ℕ }
denied_field = record { status = 1; headers = 2; body = 3 }

-- OkHttpResponse
abbrev pub ok_field : record { headers : ℕ; headers_to_remove : ℕ }
ok_field = record { headers = 2; headers_to_remove = 5 }

-- HeaderValueOption
abbrev pub option_field : record { header : ℕ; append_action : ℕ }
option_field = record { header = 1; append_action = 3 }

-- OVERWRITE_IF_EXISTS_OR_ADD, of its HeaderAppendAction
abbrev pub overwrite : ℕ
overwrite = 2

-- Status and HttpStatus
abbrev pub code_field : ℕ
code_field = 1

-- ---- what is written

-- the field of an enum or of an int32 that is not negative; none for 0, which is the default
abbrev pub number_fields : ℕ → ℕ → List Wire
number_fields k n = if n == 0 then [] else field_of k (varint n) ∷ []

-- the field of a message; one without bytes has one too
abbrev pub message_fields : ℕ → List ℕ → List Wire
message_fields k bytes = field_of k (len bytes) ∷ []

-- a Status of this code, or an HttpStatus
abbrev pub CodeWritten : ℕ → List ℕ → Type 0
CodeWritten code bytes = SpellsGroups (number_fields code_field code ∷ []) bytes

-- a HeaderValue
abbrev pub HeaderWritten : Line → List ℕ → Type 0
HeaderWritten line bytes = SpellsGroups
    (string_fields header_field.key line.0 ∷ string_fields header_field.value line.1 ∷ []) bytes

-- a HeaderValueOption, which sets the header
abbrev pub OptionWritten : Line → List ℕ → Type 0
OptionWritten line bytes = (header : List ℕ) × HeaderWritten line header × SpellsGroups
    (message_fields option_field.header header ∷ number_fields option_field.append_action overwrite ∷ []) bytes

-- an OkHttpResponse
abbrev pub OkWritten : List Line → List (List ℕ) → List ℕ → Type 0
OkWritten set remove bytes = (options : List Wire) × AreEach OptionWritten ok_field.headers set options
    × SpellsGroups (options ∷ strings_fields ok_field.headers_to_remove remove ∷ []) bytes

-- a DeniedHttpResponse
abbrev pub DeniedWritten : (status : ℕ) → List Line → (body : List ℕ) → List ℕ → Type 0
DeniedWritten status set body bytes = (http : List ℕ) × (options : List Wire) × CodeWritten status http
    × AreEach OptionWritten denied_field.headers set options
    × SpellsGroups (message_fields denied_field.status http ∷ options
    ∷ string_fields denied_field.body body ∷ []) bytes

-- a CheckResponse of this code, whose oneof has this number and these bytes
abbrev pub ResponseWritten : (code k : ℕ) → (inner : List ℕ) → List ℕ → Type 0
ResponseWritten code k inner bytes = (status : List ℕ) × CodeWritten code status × SpellsGroups
    (message_fields response_field.status status ∷ message_fields k inner ∷ []) bytes

-- the CheckResponse of an answer
abbrev pub AnswerWritten : AnswerValue → List ℕ → Type 0
AnswerWritten (allowed set remove) bytes = (inner : List ℕ) × OkWritten set remove inner
    × ResponseWritten 0 response_field.ok_response inner bytes
AnswerWritten (denied code status set body) bytes = (inner : List ℕ) × DeniedWritten status set body inner
    × ResponseWritten code response_field.denied_response inner bytes

-- ---- what is read of it

-- the payloads merge to a Status or an HttpStatus of this code
abbrev pub IsCode : List (List ℕ) → ℕ → Type 0
IsCode parts code = (fs : List Wire) × Merges parts fs × (code ≡ uint32_at code_field fs)

-- the payloads merge to a HeaderValueOption that sets this header
abbrev pub IsSet : List (List ℕ) → Line → Type 0
IsSet parts line = (fs header : List Wire) × Merges parts fs × Inner option_field.header fs header
    × (line ≡ (bytes_at header_field.key header, bytes_at header_field.value header))
    × (uint32_at option_field.append_action fs ≡ overwrite)

-- the bytes are a CheckResponse of this code. Its oneof has this number, and these fields
abbrev pub IsResponse : List ℕ → (code k : ℕ) → List Wire → Type 0
IsResponse bytes code k inner = (fs : List Wire) × Merges (bytes ∷ []) fs
    × IsCode (payloads response_field.status fs) code
    × (last_number response_keys fs ≡ Some k)
    × Inner k (member_run response_keys fs) inner

-- the bytes are a CheckResponse, which is this answer: OK allows, and any other code denies
abbrev pub IsAnswer : List ℕ → AnswerValue → Type 0
IsAnswer bytes (allowed set remove) = (ok : List Wire) × IsResponse bytes 0 response_field.ok_response ok
    × AreRepeated IsSet ok_field.headers ok set
    × (remove ≡ payloads ok_field.headers_to_remove ok)
IsAnswer bytes (denied code status set body) = (no : List Wire) × (code ≢ 0)
    × IsResponse bytes code response_field.denied_response no
    × IsCode (payloads denied_field.status no) status
    × AreRepeated IsSet denied_field.headers no set
    × (body ≡ bytes_at denied_field.body no)
