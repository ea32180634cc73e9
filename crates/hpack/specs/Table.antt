-- The dynamic table: RFC 7541, 2.3 and 4.
use Rattle.std.specs.Prelude.{◌≡◌, ℕ, ◌-◌, ◌<◌, ◌≤◌, List, [], ◌∷◌, ◌++◌, Option, Some, None, slice_get, Result, Ok, Err, nat_lt, ◌==◌, if◌then◌else◌}
use Rattle.hpack.specs.Field.{Line, line_size, lines_size}
use Rattle.hpack.specs.StaticTable.{static_table}
use Rattle.hpack.specs.declared.fault.Fault.{Fault}
use Rattle.hpack.specs.declared.fault.Fault.TheVariants.{BadIndex}

-- the entries, the newest first, and the size that they may have
pub record Table : Type 0 where
  pub entries : List Line
  pub limit : ℕ

-- what stays when the oldest entries leave until the others fit: the longest front of that size
unfoldable pub fitting : ℕ → List Line → List Line
fitting room [] = []
fitting room (f ∷ fs) = if nat_lt room (line_size f) then [] else f ∷ fitting (room - line_size f) fs

-- a new entry in front (4.4); one that is too large empties the table
abbrev pub with_entry : Line → Table → Table
with_entry f t = record { entries = fitting t.limit (f ∷ t.entries); limit = t.limit }

-- another limit (4.3)
abbrev pub with_limit : ℕ → Table → Table
with_limit limit t = record { entries = fitting limit t.entries; limit = limit }

-- the entry, if there is one; else the index is at fault (2.3.3)
abbrev pub found_or : Option Line → Result Line Fault
found_or (Some f) = Ok f
found_or None = Err BadIndex

-- one address space: the static table from 1 on, then the dynamic one (2.3.3)
unfoldable pub entry_at : Table → ℕ → Result Line Fault
entry_at t i = if i == 0 then Err BadIndex else found_or (slice_get (static_table ++ t.entries) (i - 1))

-- The front begins the entries, and it fits. With the entry after it, it would not fit.
pub record LongestFront (room : ℕ) (all front : List Line) : Type 0 where
  pub rest : List Line
  pub whole : all ≡ front ++ rest
  pub fits : lines_size front ≤ room
  pub longest : (f : Line) (more : List Line) → rest ≡ f ∷ more → room < lines_size (front ++ f ∷ [])
