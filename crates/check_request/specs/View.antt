-- What values of the code mean, without their places in memory.
use Rattle.std.specs.Prelude.{ℕ, Option, option_map, List, map}
use Rattle.std.specs.Borrow.{Bor}
use Rattle.attributes.specs.Conn.{conn_view}
use Rattle.attributes.specs.Headers.{Entry as Line}
use Rattle.http_front.specs.Parts.{field_view}
use Rattle.check_request.specs.Check.{CheckValue}
use Rattle.check_request.specs.Facts.{KnownValue}
use Rattle.check_request.specs.Sockets.{SocketValue}
use Rattle.check_request.specs.declared.answer.SetHeader.{SetHeader}
use Rattle.check_request.specs.declared.check.Check.{Check}
use Rattle.check_request.specs.declared.known.Known.{Known}
use Rattle.check_request.specs.declared.socket.Socket.{Socket}

-- an end of a connection
abbrev pub socket_view : Socket → SocketValue
socket_view s = record { host = s.host.now; ip = s.ip; port = s.port }

-- what is said of a connection
abbrev pub known_view : Known → KnownValue
known_view k = record {
  scheme = k.scheme.now;
  source = option_map socket_view k.source;
  destination = option_map socket_view k.destination;
  principal = k.principal.now;
  server_name = k.server_name.now;
}

-- a text that may be absent
abbrev pub text_view : Option (Bor (List ℕ)) → Option (List ℕ)
text_view text = option_map (λ t. t.now) text

-- what a CheckRequest asks
abbrev pub check_view : Check → CheckValue
check_view c = record {
  parts = record {
    method = c.method.now;
    target = c.target.now;
    protocol = c.protocol;
    fields = map field_view c.lines.items;
  };
  facts = conn_view c.conn;
  filters = text_view c.filters;
}

-- a header that is set
abbrev pub set_view : SetHeader → Line
set_view header = (header.name.now, header.value.now)
