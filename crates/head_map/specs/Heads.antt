-- A request as the bytes of a head (RFC 9112, sections 2.1, 3 and 5).
use Rattle.std.specs.Prelude.{ℕ, Bool, List, [], ◌∷◌, ◌++◌, codes}
use Rattle.attributes.specs.Headers.{Entry}
use Rattle.attributes.specs.Request.{head_protocol, protocol_of}
use Rattle.httparse.specs.Ascii.{crlf_bytes}
use Rattle.head_map.specs.Mapped.{PartsValue}

-- a field line, with its end
abbrev pub field_line : Entry → List ℕ
field_line line = line.0 ++ codes ": " ++ line.1 ++ crlf_bytes

-- field lines in order
abbrev pub field_lines : List Entry → List ℕ
field_lines [] = []
field_lines (line ∷ lines) = field_line line ++ field_lines lines

-- the head of a request: its request line, its field lines and an empty line
abbrev pub head_of : PartsValue → Bool → List ℕ
head_of p http11 =
    (p.method ++ codes " " ++ p.target ++ codes " " ++ protocol_of (head_protocol http11) ++ crlf_bytes)
    ++ field_lines p.lines ++ crlf_bytes
