-- The fields of an answer that count for a call of gRPC (RFC 9113, 8.3.2; gRPC's PROTOCOL-HTTP2, Responses).
use Rattle.std.specs.Prelude.{ℕ, ◌+◌, ◌*◌, ◌-◌, ◌==◌, nat_eq, nat_lt, Bool, true, false, Option, Some, None, unwrap_or, List, [], ◌∷◌, codes, bytes_eq, if◌then◌else◌}
use Rattle.std.specs.List.{starts_with}
use Rattle.hpack.specs.Field.{Line}

-- the value of the first field of a name
abbrev pub value_of : List ℕ → List Line → Option (List ℕ)
value_of name [] = None
value_of name (f ∷ fs) = if bytes_eq f.name name then Some f.value else value_of name fs

-- the number that a digit means
abbrev pub digit_of : ℕ → Option ℕ
digit_of d = if nat_lt d 48 then None else if nat_lt 57 d then None else Some (d - 48)

-- a number, and one more digit
abbrev pub with_digit : Option ℕ → Option ℕ → Option ℕ
with_digit (Some n) (Some d) = Some (n * 10 + d)
with_digit (Some n) None = None
with_digit None d = None

-- a number of one to three digits
abbrev pub number_in : List ℕ → Option ℕ
number_in (a ∷ []) = digit_of a
number_in (a ∷ b ∷ []) = with_digit (digit_of a) (digit_of b)
number_in (a ∷ b ∷ c ∷ []) = with_digit (with_digit (digit_of a) (digit_of b)) (digit_of c)
number_in [] = None
number_in (a ∷ b ∷ c ∷ d ∷ more) = None

-- the number in a value, if there is one
abbrev pub number_at : Option (List ℕ) → Option ℕ
number_at None = None
number_at (Some text) = number_in text

-- the number that the first field of a name has: a status of gRPC has one or two digits
abbrev pub number_of : List ℕ → List Line → Option ℕ
number_of name fields = number_at (value_of name fields)

-- a status of HTTP: three digits (RFC 9110, 15)
abbrev pub status_in : List ℕ → Option ℕ
status_in (a ∷ b ∷ c ∷ []) = with_digit (with_digit (digit_of a) (digit_of b)) (digit_of c)
status_in [] = None
status_in (a ∷ []) = None
status_in (a ∷ b ∷ []) = None
status_in (a ∷ b ∷ c ∷ d ∷ more) = None

-- the status of an answer, whose first field has it
abbrev pub status_of : List Line → Option ℕ
status_of [] = None
status_of (f ∷ fs) = status_in f.value

-- whether the content is gRPC's: its type begins with application/grpc
abbrev pub is_grpc_type : Option (List ℕ) → Bool
is_grpc_type None = false
is_grpc_type (Some text) = starts_with nat_eq text (codes "application/grpc")

-- whether the fields say that the content is gRPC's
abbrev pub is_grpc : List Line → Bool
is_grpc fields = is_grpc_type (value_of (codes "content-type") fields)

-- a status is interim: 1xx (RFC 9113, 8.1)
abbrev pub is_interim : ℕ → Bool
is_interim status = if nat_lt status 100 then false else nat_lt status 200

-- the grpc-status that a status of HTTP means (gRPC's http-grpc-status-mapping): INTERNAL, UNAUTHENTICATED,
-- PERMISSION_DENIED, UNIMPLEMENTED, UNAVAILABLE, and UNKNOWN
abbrev pub meant_by : ℕ → ℕ
meant_by status =
    if status == 400 then 13 else if status == 401 then 16 else if status == 403 then 7 else if status == 404 then 12
    else if status == 429 then 14 else if status == 502 then 14 else if status == 503 then 14
    else if status == 504 then 14 else 2

-- the grpc-status of fields that are no answer of gRPC: theirs, or the one that their status means
abbrev pub refusal_in : ℕ → List Line → ℕ
refusal_in status fields = unwrap_or (number_of (codes "grpc-status") fields) (meant_by status)

-- a number with these digits after it; 10^18 and more are none
abbrev pub digits_from : ℕ → List ℕ → Option ℕ
digits_from n [] = Some n
digits_from n (d ∷ ds) =
    if nat_lt 99999999999999999 n then None
    else if nat_lt d 48 then None else if nat_lt 57 d then None else digits_from (n * 10 + (d - 48)) ds

-- a number of at least one digit
abbrev pub decimal_in : List ℕ → Option ℕ
decimal_in [] = None
decimal_in (d ∷ ds) = digits_from 0 (d ∷ ds)

-- a content-length agrees with the one before it, if there is one (RFC 9110, 8.6)
abbrev pub agrees : Option ℕ → Option ℕ → Bool
agrees told None = false
agrees None (Some n) = true
agrees (Some m) (Some n) = m == n

-- the content-length, after one that was told, or none; nothing if the fields have a wrong one
abbrev pub length_from : Option ℕ → List Line → Option (Option ℕ)
length_from told [] = Some told
length_from told (f ∷ fs) =
    if bytes_eq f.name (codes "content-length")
    then (if agrees told (decimal_in f.value) then length_from (decimal_in f.value) fs else None)
    else length_from told fs

-- the octets of content that are still to come, if their number was told; nothing if more came than that
abbrev pub without : Option ℕ → ℕ → Option (Option ℕ)
without None count = Some None
without (Some n) count = if nat_lt n count then None else Some (Some (n - count))

-- the content is whole, as far as was told (RFC 9113, 8.1.1)
abbrev pub is_whole : Option ℕ → Bool
is_whole None = true
is_whole (Some n) = n == 0
