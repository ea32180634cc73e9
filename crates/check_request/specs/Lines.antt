-- The field lines of a CheckRequest: Envoy v3 `service/auth/v3/attribute_context.proto` (HttpRequest: `headers`,
-- `header_map`, `host`), `config/core/v3/base.proto` (HeaderMap, HeaderValue); RFC 9113, section 8.3.
use Rattle.std.specs.Prelude.{◌≡◌, ◌≢◌, ◌⊎◌, ℕ, ◌==◌, Bool, false, not, List, [], ◌∷◌, ◌++◌, codes, filter, map, unwrap_or}
use Rattle.std.specs.FinMap.{entries}
use Rattle.std.specs.List.{AllZip}
use Rattle.attributes.specs.Headers.{Entry as Line}
use Rattle.proto_wire.specs.Fields.{Wire}
use Rattle.proto_wire.specs.Maps.{Entry, AreEntries, map_of, text}
use Rattle.proto_wire.specs.Merge.{Merges}
use Rattle.proto_wire.specs.Values.{bytes_at, last_of, payloads}
use Rattle.check_request.specs.Numbers.{header_field, http_field, map_field}

-- the last payload, which is the value of a string; empty if there is none
abbrev pub last_payload : List (List ℕ) → List ℕ
last_payload parts = unwrap_or (last_of parts) []

-- the value of a HeaderValue: its raw value, or if that is empty its value
abbrev pub raw_or : (raw value : List ℕ) → List ℕ
raw_or [] value = value
raw_or (b ∷ raw) value = b ∷ raw

-- the field line of a HeaderValue with these fields
abbrev pub line_of : List Wire → Line
line_of fs = (
  bytes_at header_field.key fs,
  raw_or (bytes_at header_field.raw_value fs) (bytes_at header_field.value fs),
)

-- the payload is a HeaderValue, which means this field line
abbrev pub IsHeader : List ℕ → Line → Type 0
IsHeader part line = (fs : List Wire) × Merges (part ∷ []) fs × (line ≡ line_of fs)

-- the payloads merge to a HeaderMap of these field lines, in order
abbrev pub AreHeaders : List (List ℕ) → List Line → Type 0
AreHeaders parts lines = (fs : List Wire) × Merges parts fs
    × AllZip IsHeader (payloads map_field.headers fs) lines

-- the field line of an entry of a map
abbrev pub entry_line : Entry text → Line
entry_line entry = (entry.0, last_payload entry.1)

-- the payloads are a map of these field lines; each name is there once
abbrev pub AreMapped : List (List ℕ) → List Line → Type 0
AreMapped parts lines = (es : List (Entry text)) × AreEntries text parts es
    × (lines ≡ map entry_line (entries (map_of text es)))

-- the field lines that were sent: those of `header_map`, and only without it those of `headers`
abbrev pub AreSent : List Wire → List Line → Type 0
AreSent http lines =
    ((payloads http_field.header_map http ≢ []) × AreHeaders (payloads http_field.header_map http) lines)
    ⊎ ((payloads http_field.header_map http ≡ []) × AreMapped (payloads http_field.headers http) lines)

-- the name of a pseudo-header: it begins with a colon (58)
abbrev pub is_pseudo : List ℕ → Bool
is_pseudo [] = false
is_pseudo (b ∷ name) = b == 58

-- the line of a host; none for the empty one
abbrev pub host_lines : List ℕ → List Line
host_lines [] = []
host_lines (b ∷ host) = (codes ":authority", b ∷ host) ∷ []

-- the field lines of the request: those that were sent, without pseudo-headers, and then the host
abbrev pub AreLines : List Wire → List Line → Type 0
AreLines http lines = (sent : List Line) × AreSent http sent
    × (lines ≡ filter (λ l. not (is_pseudo l.0)) sent ++ host_lines (bytes_at http_field.host http))
