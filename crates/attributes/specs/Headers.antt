-- The headers of a request, one value for each name: RFC 9110 sections 5.2 and 5.3, and Envoy,
-- "Attributes" (`request.headers`).
use Rattle.std.specs.Prelude.{ℕ, List, [], ◌∷◌, ◌++◌, if◌then◌else◌, codes, filter, map}
use Rattle.std.specs.List.{join_with_byte}
use Rattle.std.specs.Ordering.{nat_cmp}
use Rattle.std.specs.Cmp.Lexicographic.{slice_cmp}
use Rattle.std.specs.FinMap.{FinMap, from_entries}
use Rattle.std.specs.Str.{bytes_eq}
use Rattle.std.specs.Arc.{arc_str_bytes}
use Rattle.std.specs.String.{string_bytes}
use Rattle.std.specs.declared.alloc.Global.{Global}
use Rattle.std.specs.declared.cmp.Ordering.{Ordering}
use Rattle.std.specs.declared.sync.ArcStr.{ArcStr}
use Rattle.std.specs.declared.string.String.{String}

-- a name with a value
abbrev pub Entry : Type 0
Entry = List ℕ × List ℕ

-- a field line of the code, as bytes
abbrev pub line_view : String Global × String Global → Entry
line_view line = (string_bytes line.0, string_bytes line.1)

-- field lines in order of arrival
abbrev pub lines_view : List (String Global × String Global) → List Entry
lines_view lines = map line_view lines

-- a header of the code, as bytes
abbrev pub header_view : ArcStr Global × ArcStr Global → Entry
header_view header = (arc_str_bytes header.0, arc_str_bytes header.1)

-- headers of the code, in order, as bytes
abbrev pub headers_view : List (ArcStr Global × ArcStr Global) → List Entry
headers_view headers = map header_view headers

-- the order of names: byte by byte
abbrev pub name_cmp : List ℕ → List ℕ → Ordering
name_cmp = slice_cmp nat_cmp

-- headers as a finite map: from names to values
abbrev pub HeaderMap : Type 0
HeaderMap = FinMap name_cmp (List ℕ)

-- the values of all entries of this name, in order
abbrev pub values_of : List ℕ → List Entry → List (List ℕ)
values_of name es = map (λ e. e.1) (filter (λ e. bytes_eq e.0 name) es)

-- several values joined, with a comma (44) between each two
abbrev pub with_commas : List (List ℕ) → List ℕ
with_commas values = join_with_byte 44 values

-- the headers of entries: each name once, with all its values joined
unfoldable pub headers_of : List Entry → HeaderMap
headers_of es = from_entries (map (λ e. (e.0, with_commas (values_of e.0 es))) es)

-- the name of a field line's header: `:authority` for the Host field, otherwise the line's name
abbrev pub header_name : List ℕ → List ℕ
header_name name = if bytes_eq name (codes "host") then codes ":authority" else name

-- a field line as an entry, under its header's name
abbrev pub line_entry : Entry → Entry
line_entry line = (header_name line.0, line.1)

-- all entries before values are joined: the field lines in order of arrival, and the pseudo-headers
abbrev pub all_entries : (method target scheme : List ℕ) → List Entry → List Entry
all_entries method target scheme lines = map line_entry lines
    ++ ((codes ":method", method) ∷ (codes ":path", target) ∷ (codes ":scheme", scheme) ∷ [])
