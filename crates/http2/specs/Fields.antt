-- Fields that a message may have (RFC 9113, 8.2 and 8.3): else it is malformed.
use Rattle.std.specs.Prelude.{ℕ, ◌==◌, nat_lt, Bool, true, false, not, List, [], ◌∷◌, codes, bytes_eq, if◌then◌else◌}
use Rattle.hpack.specs.Field.{Line}

-- an octet of a name: a visible one of ASCII, no capital letter, no colon (8.2.1)
abbrev pub is_in_name : ℕ → Bool
is_in_name b =
    if nat_lt b 33 then false else if nat_lt 126 b then false else if b == 58 then false
    else if nat_lt b 65 then true else nat_lt 90 b

-- each octet is one of a name
abbrev pub all_in_name : List ℕ → Bool
all_in_name [] = true
all_in_name (b ∷ bs) = if is_in_name b then all_in_name bs else false

-- a name has octets
abbrev pub is_name : List ℕ → Bool
is_name [] = false
is_name (b ∷ bs) = all_in_name (b ∷ bs)

-- an octet of a value: not NUL, LF or CR (8.2.1)
abbrev pub is_in_value : ℕ → Bool
is_in_value b = if b == 0 then false else if b == 10 then false else not (b == 13)

-- each octet is one of a value
abbrev pub all_in_value : List ℕ → Bool
all_in_value [] = true
all_in_value (b ∷ bs) = if is_in_value b then all_in_value bs else false

-- a space or a tab
abbrev pub is_blank : ℕ → Bool
is_blank b = if b == 32 then true else b == 9

-- the first octet is a space or a tab
abbrev pub begins_blank : List ℕ → Bool
begins_blank [] = false
begins_blank (b ∷ bs) = is_blank b

-- the last octet is a space or a tab; if there is none, as it was before
abbrev pub ends_blank : Bool → List ℕ → Bool
ends_blank before [] = before
ends_blank before (b ∷ bs) = ends_blank (is_blank b) bs

-- a value has neither at its ends (8.2.1)
abbrev pub is_value : List ℕ → Bool
is_value value =
    if all_in_value value then (if begins_blank value then false else not (ends_blank false value)) else false

-- fields of HTTP/1.1 that are about its connection (8.2.2)
abbrev pub is_of_connection : List ℕ → Bool
is_of_connection name =
    if bytes_eq name (codes "connection") then true
    else if bytes_eq name (codes "proxy-connection") then true
    else if bytes_eq name (codes "keep-alive") then true
    else if bytes_eq name (codes "transfer-encoding") then true
    else bytes_eq name (codes "upgrade")

-- a field that is no pseudo-field, and may be there
abbrev pub is_plain : Line → Bool
is_plain f = if is_name f.name then (if is_of_connection f.name then false else is_value f.value) else false

-- each field is such a one: trailers have no others (8.1)
abbrev pub are_plain : List Line → Bool
are_plain [] = true
are_plain (f ∷ fs) = if is_plain f then are_plain fs else false

-- the fields of an answer: the pseudo-field of its status is in front, alone (8.3, 8.3.2)
abbrev pub are_of_answer : List Line → Bool
are_of_answer [] = false
are_of_answer (f ∷ fs) = if bytes_eq f.name (codes ":status") then are_plain fs else false
