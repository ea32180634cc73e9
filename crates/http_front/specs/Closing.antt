-- After which requests the connection closes (RFC 9112, section 9.6; RFC 9110, sections 5.6.1 and 7.6.1).
use Rattle.std.specs.Prelude.{ℕ, Bool, not, ◌&&◌, ◌||◌, ◌==◌, List, [], ◌∷◌, codes, map, if◌then◌else◌}
use Rattle.std.specs.List.{list_any}
use Rattle.std.specs.Str.{bytes_eq}
use Rattle.attributes.specs.Headers.{Entry}
use Rattle.httparse.specs.Ascii.{comma}
use Rattle.httparse.specs.Grammar.{trim_ows}
use Rattle.http_header.specs.Token.{lowercase}
use Rattle.http_front.specs.Head.{HeadValue}
use Rattle.http_front.specs.Rules.{lines_of}

-- the texts with this byte before the first one
abbrev pub onto_first : ℕ → List (List ℕ) → List (List ℕ)
onto_first b [] = (b ∷ []) ∷ []
onto_first b (text ∷ texts) = (b ∷ text) ∷ texts

-- the texts between commas
abbrev pub between_commas : List ℕ → List (List ℕ)
between_commas [] = [] ∷ []
between_commas (b ∷ bytes) =
    if b == comma then [] ∷ between_commas bytes else onto_first b (between_commas bytes)

-- the elements of a list, without the spaces and tabs around each (RFC 9110, section 5.6.1)
unfoldable pub elements : List ℕ → List (List ℕ)
elements value = map trim_ows (between_commas value)

-- the connection option `close`, in any case of letters
abbrev pub is_close : List ℕ → Bool
is_close element = bytes_eq (lowercase element) (codes "close")

-- the field is a Connection field that lists `close`; its name is in lower case
abbrev pub lists_close : Entry → Bool
lists_close l = bytes_eq l.0 (codes "connection") && list_any is_close (elements l.1)

-- the connection closes after the head: it is of HTTP/1.0, or one of its Connection fields lists `close`
abbrev pub closes : HeadValue → Bool
closes h = not h.http11 || list_any lists_close (lines_of h)
