-- The parts of a request, and the head that they spell (RFC 9112, sections 3 and 5; RFC 9113, section 8.3).
use Rattle.std.specs.Prelude.{◌≡◌, ◌<◌, ◌⊎◌, ℕ, Bool, true, false, ◌&&◌, List, [], ◌∷◌, Any, IsUtf8, codes, if◌then◌else◌, length, map}
use Rattle.std.specs.Str.{bytes_eq}
use Rattle.attributes.specs.Conn.{Facts}
use Rattle.attributes.specs.Headers.{Entry}
use Rattle.attributes.specs.Limits.{LimitsValue}
use Rattle.attributes.specs.Request.{RequestValue, in_protocol}
use Rattle.attributes.specs.declared.protocol.Protocol.{Protocol}
use Rattle.attributes.specs.declared.protocol.Protocol.TheVariants.{Http10, Http11, Http2, Http3}
use Rattle.http_header.specs.Token.{lowercase}
use Rattle.httparse.specs.Grammar.{AllPass, Field, IsRequestHead, IsToken, RequestHead, crlf, is_uri_byte, is_value_byte, print_request, trim_ows}
use Rattle.http_front.specs.declared.fault.HeadFault.{HeadFault}
use Rattle.http_front.specs.declared.fault.HeadFault.TheVariants.{Malformed}
use Rattle.http_front.specs.declared.fault.HeadPart.{HeadPart}
use Rattle.http_front.specs.declared.fault.HeadPart.TheVariants.{FieldName, FieldValue, Method, Target}
use Rattle.http_front.specs.declared.parts.HeadParts.{HeadParts}
use Rattle.http_front.specs.declared.parts.Line.{Line}
use Rattle.http_front.specs.Asks.{HasFault, HeadAsks}

-- the parts of a request: its method, its target, its protocol, and its fields in order. A field is a name in any case,
-- and a value with the white space around it
pub record PartsValue : Type 0 where
  pub method : List ℕ
  pub target : List ℕ
  pub protocol : Protocol
  pub fields : List Entry

-- the field that a `Line` of the code means
abbrev pub field_view : Line → Entry
field_view line = (line.name.now, line.value.now)

-- the parts that a `HeadParts` of the code means
abbrev pub parts_view : HeadParts → PartsValue
parts_view parts = record {
  method = parts.method.now;
  target = parts.target.now;
  protocol = parts.protocol;
  fields = map field_view parts.lines.now;
}

-- the name is that of HTTP/2 for the host (RFC 9113, section 8.3.1)
abbrev pub is_authority : List ℕ → Bool
is_authority name = bytes_eq (lowercase name) (codes ":authority")

-- the field is a Host with this value, apart from white space around it
abbrev pub is_host_of : List ℕ → Entry → Bool
is_host_of value field =
    bytes_eq (lowercase field.0) (codes "host") && bytes_eq (trim_ows field.1) (trim_ows value)

-- the fields without the first Host that has this value
abbrev pub without_host : List ℕ → List Entry → List Entry
without_host value [] = []
without_host value (f ∷ fields) =
    if is_host_of value f then fields else f ∷ without_host value fields

-- the fields without a Host that has the value of the first `:authority` among `others`
abbrev pub without_repeated : List Entry → List Entry → List Entry
without_repeated [] fields = fields
without_repeated (f ∷ others) fields =
    if is_authority f.0 then without_host f.1 fields else without_repeated others fields

-- the name under which a head has the field: `:authority` is sent as Host
abbrev pub line_name : List ℕ → List ℕ
line_name name = if is_authority name then codes "host" else name

-- a field as a line of a head
abbrev pub line_of : Entry → Field
line_of field = record { name = line_name field.0; raw = field.1; end = crlf }

-- a head with these fields as its lines
abbrev pub head_with : (method target : List ℕ) → Bool → List Entry → RequestHead
head_with method target http11 fields = record {
  blank = [];
  method = method;
  target = target;
  minor = if http11 then 1 else 0;
  line_end = crlf;
  fields = map line_of fields;
  last = crlf;
}

-- whether a request of this protocol is spelled as a head of HTTP/1.1, or else of HTTP/1.0: HTTP/1.1 spells the later
-- protocols too
abbrev pub spells_http11 : Protocol → Bool
spells_http11 Http10 = false
spells_http11 Http11 = true
spells_http11 Http2 = true
spells_http11 Http3 = true

-- the head that the parts spell, as a tree of the grammar. A Host that repeats `:authority` is left out
abbrev pub spelled_head : PartsValue → RequestHead
spelled_head p =
    head_with p.method p.target (spells_http11 p.protocol) (without_repeated p.fields p.fields)

-- the bytes of that head
abbrev pub parts_text : PartsValue → List ℕ
parts_text p = print_request (spelled_head p)

-- a target by the grammar of a head
abbrev pub IsTarget : List ℕ → Type 0
IsTarget target = (0 < length target) × AllPass is_uri_byte target × IsUtf8 target

-- some line is malformed in its name or its value. So is a name that is empty or begins with a colon
abbrev pub AreMalformedIn : List Field → HeadPart → Type 0
AreMalformedIn fields FieldName = Any (λ f. ¬ (IsToken f.name)) fields
AreMalformedIn fields FieldValue = Any (λ f. ¬ (AllPass is_value_byte f.raw)) fields
AreMalformedIn fields part = ⊥

-- the head is malformed in this part: it is not of the grammar
abbrev pub IsMalformedIn : RequestHead → HeadPart → Type 0
IsMalformedIn h Method = ¬ (IsToken h.method)
IsMalformedIn h Target = ¬ (IsTarget h.target)
IsMalformedIn h part = AreMalformedIn h.fields part

-- the parts ask for the request `r`: they spell a head of the grammar, whose bytes ask for a request. `r` is that
-- request, of the parts' protocol
pub record PartsAsk (p : PartsValue) (limits : LimitsValue) (facts : Facts)
    (r : RequestValue) : Type 0 where
  pub shape : IsRequestHead (spelled_head p)
  pub spelled : RequestValue
  pub asks : HeadAsks (parts_text p) limits facts spelled
  pub request : r ≡ in_protocol p.protocol spelled

-- the parts have this fault: the head that they spell is not of the grammar, or its bytes have the fault
pub data PartsFault (p : PartsValue) (limits : LimitsValue) (facts : Facts)
    (fault : HeadFault) : Type 0 where
  malformed : (part : HeadPart) → IsMalformedIn (spelled_head p) part → fault ≡ Malformed part
      → PartsFault p limits facts fault
  spelled : IsRequestHead (spelled_head p) → HasFault (parts_text p) limits facts fault
      → PartsFault p limits facts fault

-- the parts ask for a request, or they have a fault
abbrev pub PartsAskOrFail : PartsValue → LimitsValue → Facts → Type 0
PartsAskOrFail p limits facts = ((r : RequestValue) × PartsAsk p limits facts r)
    ⊎ ((fault : HeadFault) × PartsFault p limits facts fault)
