-- The lines of a record (this project's own; docs/OPERATING.md, "A replay").
use Rattle.std.specs.Prelude.{◌<◌, ◌^◌, ⊤, ℕ, List, codes, map}
use Rattle.std.specs.List.{flat_map}
use Rattle.attributes.specs.Conn.{AreFacts}
use Rattle.hex.specs.Hex.{IsBytes, encode_lower}
use Rattle.proxy_core.specs.Events.{EventValue, ads_bytes, ads_lost, ads_up, http_bytes, http_closed, http_open}
use Rattle.serde_json.specs.Data.{Data, member, no_members, number, object, string, unsigned}
use Rattle.serde_json.specs.Written.{compact_text}
use Rattle.program_texts.specs.WrittenFacts.{AreInOneForm, facts_json}
use Rattle.serve_log.specs.Writing.{line_of}

-- an event of this name without other members
abbrev pub plain_json : List ℕ → Data
plain_json name = object (member (codes "event") (string name) no_members)

-- the update stream delivers these bytes
abbrev pub fed_json : List ℕ → Data
fed_json bytes =
    object (member (codes "event") (string (codes "ads_bytes"))
    (member (codes "hex") (string (encode_lower bytes)) no_members))

-- the connection of this number opens, with these facts
abbrev pub opened_json : ℕ → Data → Data
opened_json k facts =
    object (member (codes "event") (string (codes "http_open"))
    (member (codes "facts") facts
    (member (codes "k") (number (unsigned k)) no_members)))

-- the connection of this number delivers these bytes
abbrev pub received_json : ℕ → List ℕ → Data
received_json k bytes =
    object (member (codes "event") (string (codes "http_bytes"))
    (member (codes "hex") (string (encode_lower bytes))
    (member (codes "k") (number (unsigned k)) no_members)))

-- the connection of this number is closed
abbrev pub closed_json : ℕ → Data
closed_json k =
    object (member (codes "event") (string (codes "http_closed"))
    (member (codes "k") (number (unsigned k)) no_members))

-- the event as a JSON object
abbrev pub event_json : EventValue → Data
event_json ads_up = plain_json (codes "ads_up")
event_json (ads_bytes bytes) = fed_json bytes
event_json ads_lost = plain_json (codes "ads_lost")
event_json (http_open k facts) = opened_json k (facts_json facts)
event_json (http_bytes k bytes) = received_json k bytes
event_json (http_closed k) = closed_json k

-- the text of an event's line
abbrev pub event_text : EventValue → List ℕ
event_text event = compact_text (event_json event)

-- the line of an event
abbrev pub event_line : EventValue → List ℕ
event_line event = line_of (event_text event)

-- the bytes of the lines of events, in order
abbrev pub file_of : List EventValue → List ℕ
file_of events = flat_map event_line events

-- the event is one that the types of the code allow: bytes are below 256, numbers below 2^64. The addresses of its facts
-- and the name of the server are in one form
abbrev pub IsRecordable : EventValue → Type 0
IsRecordable ads_up = ⊤
IsRecordable (ads_bytes bytes) = IsBytes bytes
IsRecordable ads_lost = ⊤
IsRecordable (http_open k facts) = (k < 2 ^ 64) × AreFacts facts × AreInOneForm facts
IsRecordable (http_bytes k bytes) = (k < 2 ^ 64) × IsBytes bytes
IsRecordable (http_closed k) = k < 2 ^ 64
