-- Which member of a oneof counts: Protocol Buffers encoding guide, "Last One Wins" and "Oneofs".
use Rattle.std.specs.Prelude.{ℕ, ◌==◌, cond, Option, List, [], ◌∷◌, filter, option_map}
use Rattle.std.specs.List.{list_all}
use Rattle.std.specs.Map.{lookup}
use Rattle.std.specs.Option.{option_and_then}
use Rattle.proto_wire.specs.Fields.{Wire}
use Rattle.proto_wire.specs.Keys.{is_known}
use Rattle.proto_wire.specs.Values.{last_of}
use Rattle.proto_wire.specs.declared.key.Key.{Key}

-- the last field that has one of the keys: the last member of a oneof
abbrev pub last_member : List Key → List Wire → Option Wire
last_member keys fs = last_of (filter (is_known keys) fs)

-- the number of the last member
abbrev pub last_number : List Key → List Wire → Option ℕ
last_number keys fs = option_map (λ f. f.number) (last_member keys fs)

-- the member of this number in a table; none if the number has no row, or its member is not
-- supported
abbrev pub member_in : {M : Type 0} → List (Key × Option M) → ℕ → Option M
member_in table n = option_and_then (λ m. m) (lookup (λ key. key.number == n) table)

-- the longest suffix of a list whose fields all have one number
abbrev pub trailing_run : List Wire → List Wire
trailing_run [] = []
trailing_run (f ∷ fs) = cond (list_all (λ g. g.number == f.number) fs) (f ∷ fs) (trailing_run fs)

-- the trailing run of the fields that have a member's key: the occurrences of a oneof's last
-- member, which merge
abbrev pub member_run : List Key → List Wire → List Wire
member_run keys fs = trailing_run (filter (is_known keys) fs)
