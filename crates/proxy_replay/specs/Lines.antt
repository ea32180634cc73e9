-- The lines of a replay: events as JSON objects (RFC 8259 section 4), and outputs as words. The names are this project's own.
use Rattle.std.specs.Prelude.{◌≡◌, ⊤, ℕ, List, [], ◌∷◌, ◌++◌, Bool, if◌then◌else◌, Ok, Some, codes}
use Rattle.attributes.specs.Conn.{Facts, conn_view}
use Rattle.hex.specs.Hex.{decode_of, encode_lower}
use Rattle.proxy_core.specs.Events.{EventValue, ads_up, ads_bytes, ads_lost, http_open, http_bytes, http_closed, OutputValue}
use Rattle.serde_json.specs.Data.{Data, number, unsigned, string}
use Rattle.serde_json.specs.Find.{get}
use Rattle.serde_json.specs.Read.{read}
use Rattle.program_texts.specs.Facts.{AreFacts}
use Rattle.program_texts.specs.Members.{HasOnly}
use Rattle.proxy_replay.specs.declared.lines.EventKind.{EventKind}
use Rattle.proxy_replay.specs.declared.lines.EventKind.TheVariants as kinds
use Rattle.proxy_replay.specs.declared.lines.LineEvent.{LineEvent}
use Rattle.proxy_replay.specs.declared.lines.LineEvent.TheVariants as lines

-- the event that a `LineEvent` means
abbrev pub line_view : LineEvent → EventValue
line_view lines.AdsUp = ads_up
line_view (lines.AdsBytes bytes) = ads_bytes bytes.items
line_view lines.AdsLost = ads_lost
line_view (lines.HttpOpen k conn) = http_open k (conn_view conn)
line_view (lines.HttpBytes k bytes) = http_bytes k bytes.items
line_view (lines.HttpClosed k) = http_closed k

-- the kind of an event
abbrev pub kind_of : EventValue → EventKind
kind_of ads_up = kinds.AdsUp
kind_of (ads_bytes bytes) = kinds.AdsBytes
kind_of ads_lost = kinds.AdsLost
kind_of (http_open k facts) = kinds.HttpOpen
kind_of (http_bytes k bytes) = kinds.HttpBytes
kind_of (http_closed k) = kinds.HttpClosed

-- the name of each kind, and the names of its object's members
abbrev pub kind_row : EventKind → List ℕ × List (List ℕ)
kind_row kinds.AdsUp = (codes "ads_up", codes "event" ∷ [])
kind_row kinds.AdsBytes = (codes "ads_bytes", codes "event" ∷ codes "hex" ∷ [])
kind_row kinds.AdsLost = (codes "ads_lost", codes "event" ∷ [])
kind_row kinds.HttpOpen = (codes "http_open", codes "event" ∷ codes "k" ∷ codes "facts" ∷ [])
kind_row kinds.HttpBytes = (codes "http_bytes", codes "event" ∷ codes "k" ∷ codes "hex" ∷ [])
kind_row kinds.HttpClosed = (codes "http_closed", codes "event" ∷ codes "k" ∷ [])

-- the name of a kind
abbrev pub name_of : EventKind → List ℕ
name_of kind = (kind_row kind).0

-- the names of the members of a kind's object
abbrev pub names_of : EventKind → List (List ℕ)
names_of kind = (kind_row kind).1

-- the member `hex` has these bytes as hexadecimal pairs, with digits of either case
abbrev pub HasHex : Data → List ℕ → Type 0
HasHex d bytes = (text : List ℕ) × (get (codes "hex") d ≡ Some (string text)) × (decode_of text ≡ Ok bytes)

-- the member `k` is this number
abbrev pub HasNumber : Data → ℕ → Type 0
HasNumber d k = get (codes "k") d ≡ Some (number (unsigned k))

-- the member `facts` means these facts
abbrev pub HasFacts : Data → Facts → Type 0
HasFacts d facts = (value : Data) × (get (codes "facts") d ≡ Some value) × AreFacts value facts

-- the members other than `event` mean what the event holds
abbrev pub HasParts : Data → EventValue → Type 0
HasParts d ads_up = ⊤
HasParts d (ads_bytes bytes) = HasHex d bytes
HasParts d ads_lost = ⊤
HasParts d (http_open k facts) = HasNumber d k × HasFacts d facts
HasParts d (http_bytes k bytes) = HasNumber d k × HasHex d bytes
HasParts d (http_closed k) = HasNumber d k

-- the value is this event: an object with the event's name and its members, and no others
pub record IsEvent (d : Data) (event : EventValue) : Type 0 where
  pub name : get (codes "event") d ≡ Some (string (name_of (kind_of event)))
  pub names : HasOnly (names_of (kind_of event)) d
  pub parts : HasParts d event

-- the line is the JSON text of this event
abbrev pub IsLine : List ℕ → EventValue → Type 0
IsLine text event = (d : Data) × (read text ≡ Some d) × IsEvent d event

-- bytes as hexadecimal pairs in lower case; no bytes are `-`
abbrev pub bytes_word : List ℕ → List ℕ
bytes_word [] = codes "-"
bytes_word (b ∷ bytes) = encode_lower (b ∷ bytes)

-- the word for whether something is closed
abbrev pub end_word : Bool → List ℕ
end_word closes = if closes then codes "close" else codes "open"

-- an output as four words, separated by spaces
abbrev pub words_of : OutputValue → List ℕ
words_of o = bytes_word o.ads
    ++ (32 ∷ (end_word o.ads_close ++ (32 ∷ (bytes_word o.http ++ (32 ∷ end_word o.http_close)))))
