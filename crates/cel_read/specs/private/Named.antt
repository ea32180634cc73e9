-- The values of a map from ids to payloads, of which the code has read some.
use Rattle.std.specs.Prelude.{◌≡◌, ℕ, ℤ, List, None, MatchOption, IsSomeAnd}
use Rattle.std.specs.Borrow.{Bor}
use Rattle.std.specs.FinMap.{FinMap, find, get}
use Rattle.std.specs.Ordering.{int_cmp}
use Rattle.smallvec.specs.SmallVec.{SmallVec}
use Rattle.proto_wire.specs.Maps.{Entry, int64, entries_view}

-- the ids of a map with the payloads at each, in order
abbrev pub ids_view : List (ℤ × SmallVec (Bor (List ℕ))) → List (Entry int64)
ids_view = entries_view int64 (λ id. id)

-- each value is that of its id's payloads, and each id that was read has a value
abbrev pub SomeValues : {V : Type 0} → (List (List ℕ) → V → Type 0) → (whole read : List (Entry int64))
    → FinMap int_cmp V → Type 0
SomeValues IsValue whole read values = (id : ℤ) → MatchOption (get values id)
    (find int_cmp id read ≡ None) (λ v. IsSomeAnd (find int_cmp id whole) (λ parts. IsValue parts v))
