-- The fields of a request (RFC 9113, 8.2.2 and 8.3.1), and of a call of gRPC (gRPC's PROTOCOL-HTTP2, Requests).
use Rattle.std.specs.Prelude.{ℕ, ◌+◌, ◌==◌, nat_lt, Bool, true, false, not, Option, Some, None, List, [], ◌∷◌, codes, bytes_eq, if◌then◌else◌}
use Rattle.hpack.specs.Field.{Line}
use Rattle.http2.specs.Fields.{is_plain, is_value}
use Rattle.http2.specs.Answer.{value_of, is_grpc}

-- how many fields have a name
abbrev pub count_of : List ℕ → List Line → ℕ
count_of name [] = 0
count_of name (f ∷ fs) = if bytes_eq f.name name then count_of name fs + 1 else count_of name fs

-- the pseudo-fields of a request (8.3.1)
abbrev pub is_pseudo : List ℕ → Bool
is_pseudo name =
    if bytes_eq name (codes ":method") then true
    else if bytes_eq name (codes ":scheme") then true
    else if bytes_eq name (codes ":path") then true
    else bytes_eq name (codes ":authority")

-- a field that may come after the pseudo-fields: te says that trailers are taken, and nothing else (8.2.2)
abbrev pub is_allowed : Line → Bool
is_allowed f = if bytes_eq f.name (codes "te") then bytes_eq f.value (codes "trailers") else is_plain f

-- each field is such a one
abbrev pub are_allowed : List Line → Bool
are_allowed [] = true
are_allowed (f ∷ fs) = if is_allowed f then are_allowed fs else false

-- the pseudo-fields are in front, each with a value that a field may have (8.2.1, 8.3)
abbrev pub are_in_order : List Line → Bool
are_in_order [] = true
are_in_order (f ∷ fs) =
    if is_pseudo f.name then (if is_value f.value then are_in_order fs else false) else are_allowed (f ∷ fs)

-- there is a value, and it has octets
abbrev pub has_octets : Option (List ℕ) → Bool
has_octets None = false
has_octets (Some []) = false
has_octets (Some (b ∷ bs)) = true

-- a request is well formed: one method, one scheme, one path, which is not empty, at most one authority, and in order (8.3.1)
abbrev pub is_request : List Line → Bool
is_request fields =
    if not (count_of (codes ":method") fields == 1) then false
    else if not (count_of (codes ":scheme") fields == 1) then false
    else if not (count_of (codes ":path") fields == 1) then false
    else if nat_lt 1 (count_of (codes ":authority") fields) then false
    else if has_octets (value_of (codes ":path") fields) then are_in_order fields else false

-- a value is this text
abbrev pub is_text : Option (List ℕ) → List ℕ → Bool
is_text None text = false
is_text (Some value) text = bytes_eq value text

-- a request is a call of the method with this path: by POST, with gRPC's content
abbrev pub is_call : List ℕ → List Line → Bool
is_call path fields =
    if not (is_text (value_of (codes ":method") fields) (codes "POST")) then false
    else if is_text (value_of (codes ":path") fields) path then is_grpc fields else false
