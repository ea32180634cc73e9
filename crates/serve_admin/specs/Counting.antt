-- How a server counts. A counter at its greatest value stays there.
use Rattle.std.specs.Prelude.{ℕ, Bool, List, [], ◌∷◌, ◌+◌, ◌-◌, ◌^◌, ◌&&◌, nat_le, nat_lt, if◌then◌else◌, min, slice_index_or, slice_set}

-- a counter after so many more
abbrev pub raised : ℕ → ℕ → ℕ
raised counter more = min (counter + more) (2 ^ 64 - 1)

-- a row of counters with one more in a place. A row that is too short stays as it is.
abbrev pub counted : List ℕ → ℕ → List ℕ
counted row place = slice_set row place (raised (slice_index_or row place 0) 1)

-- the place of the first limit that is not below a number, or the place after the last
abbrev pub place_below : List ℕ → ℕ → ℕ
place_below [] number = 0
place_below (limit ∷ limits) number = if nat_le number limit then 0 else place_below limits number + 1

-- the bucket of a number: its limit is ten to the power of its place, and the last has none
abbrev pub bucket : ℕ → ℕ
bucket number = place_below (1 ∷ 10 ∷ 100 ∷ 1000 ∷ 10000 ∷ 100000 ∷ 1000000 ∷ 10000000 ∷ 100000000 ∷ []) number

-- so many open connections take the last place of a limit. A limit of 0 is not known.
abbrev pub takes_last : ℕ → ℕ → Bool
takes_last count limit = nat_lt 0 limit && nat_le limit count

-- how often the last place was taken, once so many connections are open
abbrev pub full_after : ℕ → ℕ → ℕ → ℕ
full_after limit count full = if takes_last count limit then raised full 1 else full
