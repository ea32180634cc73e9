-- A request by its parts as a program in C gives it (this project's own). Which parts they are, and which are outside
-- the limits by their lengths alone.
use Rattle.std.specs.Prelude.{◌≢◌, ◌==◌, ℕ, Bool, ◌||◌, nat_lt, Option, Some, None, List, length, map, unwrap_or, if◌then◌else◌}
use Rattle.std.specs.List.{list_any}
use Rattle.attributes.specs.Headers.{Entry}
use Rattle.attributes.specs.Limits.{LimitsValue}
use Rattle.attributes.specs.Request.{head_protocol}
use Rattle.attributes.specs.declared.protocol.Protocol.{Protocol}
use Rattle.attributes.specs.declared.protocol.Protocol.TheVariants.{Http11, Http2, Http3}
use Rattle.c_inputs.specs.declared.request.RequestInput.{RequestInput}
use Rattle.http_front.specs.Head.{head_room}
use Rattle.http_front.specs.Parts.{PartsValue, field_view}

-- the protocol of this number: 2 and 3 are HTTP/2 and HTTP/3, and 0 is HTTP/1.1 or, if not, HTTP/1.0
abbrev pub protocol_numbered : Bool → ℕ → Option Protocol
protocol_numbered http11 n = if n == 0 then Some (head_protocol http11)
    else (if n == 2 then Some Http2 else (if n == 3 then Some Http3 else None))

-- the protocol of the request that is given
abbrev pub protocol_given : RequestInput → Option Protocol
protocol_given r = protocol_numbered r.is_http11 r.protocol

-- the number is that of a protocol
abbrev pub HasProtocol : RequestInput → Type 0
HasProtocol r = protocol_given r ≢ None

-- the parts of a request as they are given. A number of no protocol is refused, so HTTP/1.1 for it has no effect
abbrev pub parts_given : RequestInput → PartsValue
parts_given r = record {
  method = r.method.now;
  target = r.target.now;
  protocol = unwrap_or (protocol_given r) Http11;
  fields = map field_view r.lines.now;
}

-- the field's name has more bytes than `most`, or its value more than a head may have. White space around a value does
-- not count for its limit, so a longer value than that may be within the limits
abbrev pub is_long_line : ℕ → Entry → Bool
is_long_line most f = nat_lt most (length f.0) || nat_lt head_room (length f.1)

-- some field is too long
abbrev pub has_long_line : ℕ → List Entry → Bool
has_long_line most fields = list_any (is_long_line most) fields

-- whatever the bytes of the parts are, the request is outside the limits. The method, the target, a name or a value is too
-- long, or there are too many fields
abbrev pub are_too_long : LimitsValue → PartsValue → Bool
are_too_long limits p = nat_lt limits.method (length p.method) || nat_lt limits.target (length p.target)
    || nat_lt limits.fields (length p.fields) || has_long_line limits.name p.fields
