-- grpc-message (gRPC's PROTOCOL-HTTP2, Responses): its octets are percent-encoded.
use Rattle.std.specs.Prelude.{ℕ, ◌+◌, ◌*◌, ◌-◌, ◌==◌, nat_lt, Bool, true, false, Option, Some, None, List, [], ◌∷◌, take, length, codes, if◌then◌else◌}
use Rattle.hpack.specs.Field.{Line}
use Rattle.http2.specs.Answer.{value_of}

-- a digit of base 16, and its value
abbrev pub is_hex : ℕ → Bool
is_hex d =
    if nat_lt d 48 then false else if nat_lt d 58 then true else if nat_lt d 65 then false
    else if nat_lt d 71 then true else if nat_lt d 97 then false else nat_lt d 103

-- 0 to 9, A to F, a to f
abbrev pub hex_of : ℕ → ℕ
hex_of d = if nat_lt d 58 then d - 48 else if nat_lt d 71 then d - 55 else d - 87

-- a percent sign and two digits
abbrev pub is_coded : ℕ → ℕ → ℕ → Bool
is_coded p a b = if p == 37 then (if is_hex a then is_hex b else false) else false

-- each such three are one octet; all else stays, so that a broken code loses nothing
abbrev pub decoded : List ℕ → List ℕ
decoded [] = []
decoded (p ∷ []) = p ∷ []
decoded (p ∷ a ∷ []) = p ∷ a ∷ []
decoded (p ∷ a ∷ b ∷ more) = if is_coded p a b then (hex_of a * 16 + hex_of b) ∷ decoded more else p ∷ decoded (a ∷ b ∷ more)

-- what is kept of a message: its first octets, and how many more there were
pub record Told : Type 0 where
  pub text : List ℕ
  pub cut : ℕ

-- at most 1,024
abbrev pub told_of : List ℕ → Told
told_of octets = record { text = take 1024 octets; cut = length octets - 1024 }

-- no message is an empty one
abbrev pub told_at : Option (List ℕ) → Told
told_at None = record { text = []; cut = 0 }
told_at (Some value) = told_of (decoded value)

-- what fields tell
abbrev pub told_in : List Line → Told
told_in fields = told_at (value_of (codes "grpc-message") fields)
