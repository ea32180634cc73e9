-- A request as values: RFC 9112 section 3 (request line), RFC 9110 sections 2.5 (protocol) and 5
-- (fields), Envoy, "Attributes".
use Rattle.std.specs.Prelude.{ℕ, ◌+◌, ◌<◌, ◌≤◌, ◌^◌, All, Bool, List, Option, codes, if◌then◌else◌, length}
use Rattle.std.specs.FinMap.{entries, get, len}
use Rattle.std.specs.Str.{IsUtf8}
use Rattle.attributes.specs.Conn.{AreFacts, Facts}
use Rattle.attributes.specs.Headers.{Entry, HeaderMap, all_entries, headers_of}
use Rattle.attributes.specs.declared.protocol.Protocol.{Protocol}
use Rattle.attributes.specs.declared.protocol.Protocol.TheVariants.{Http10, Http11, Http2, Http3}

-- a request; `lines` is the number of its field lines, and `headers` are all its headers,
-- pseudo-headers included
pub record RequestValue : Type 0 where
  pub method : List ℕ
  pub target : List ℕ
  pub protocol : Protocol
  pub lines : ℕ
  pub headers : HeaderMap
  pub facts : Facts

-- the name and the value are UTF-8
abbrev pub IsTextEntry : Entry → Type 0
IsTextEntry e = IsUtf8 e.0 × IsUtf8 e.1

-- names and values are UTF-8
abbrev pub AreTextHeaders : HeaderMap → Type 0
AreTextHeaders headers = All IsTextEntry (entries headers)

-- every request satisfies this: texts are UTF-8, and numbers are in their ranges. There are at most
-- three headers more than field lines
pub record IsRequest (r : RequestValue) : Type 0 where
  pub method : IsUtf8 r.method
  pub target : IsUtf8 r.target
  pub lines : r.lines < 2 ^ 64
  pub headers : AreTextHeaders r.headers
  pub few : len r.headers ≤ r.lines + 3
  pub facts : AreFacts r.facts

-- the value of the header of this name in lower case; the Host field is `:authority`
abbrev pub header_of : RequestValue → List ℕ → Option (List ℕ)
header_of r name = get r.headers name

-- a protocol as text, as Envoy has it in `request.protocol`
abbrev pub protocol_of : Protocol → List ℕ
protocol_of Http10 = codes "HTTP/1.0"
protocol_of Http11 = codes "HTTP/1.1"
protocol_of Http2 = codes "HTTP/2"
protocol_of Http3 = codes "HTTP/3"

-- the protocol of a head of HTTP/1, which is HTTP/1.1 or, if not, HTTP/1.0 (RFC 9112 section 2.3)
abbrev pub head_protocol : Bool → Protocol
head_protocol http11 = if http11 then Http11 else Http10

-- the request of these parts on a connection with these facts
abbrev pub request_of : (method target : List ℕ) → Protocol → List Entry → Facts → RequestValue
request_of method target protocol lines facts = record {
  method = method;
  target = target;
  protocol = protocol;
  lines = length lines;
  headers = headers_of (all_entries method target facts.scheme lines);
  facts = facts;
}

-- the same request, of another protocol
abbrev pub in_protocol : Protocol → RequestValue → RequestValue
in_protocol protocol r = record r { protocol = protocol }
