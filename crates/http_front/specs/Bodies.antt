-- The length of the body after a head (RFC 9112, section 6.3).
use Rattle.std.specs.Prelude.{ℕ, List, [], ◌∷◌, codes, if◌then◌else◌}
use Rattle.std.specs.Str.{bytes_eq}
use Rattle.std.specs.Str.Parse.{digits_value}
use Rattle.attributes.specs.Headers.{Entry}
use Rattle.http_front.specs.Head.{HeadValue}
use Rattle.http_front.specs.Rules.{lines_of}

-- the number of the first Content-Length; 0 if there is none
abbrev pub body_of_lines : List Entry → ℕ
body_of_lines [] = 0
body_of_lines (l ∷ lines) =
    if bytes_eq l.0 (codes "content-length") then digits_value 10 l.1 else body_of_lines lines

-- how many bytes of a body follow the head
abbrev pub body_of : HeadValue → ℕ
body_of h = body_of_lines (lines_of h)
