-- The earliest of times (this project's own; docs/REFERENCE.md, "The settings of a server" and "The admin port").
use Rattle.std.specs.Prelude.{◌≡◌, ◌≤◌, ℕ, List, Option, None, Some, get_or}

-- the place has the earliest of these times; none if there is no time
abbrev pub IsEarliest : List (Option ℕ) → Option ℕ → Type 0
IsEarliest times None = (k : ℕ) → get_or times k None ≡ None
IsEarliest times (Some k) =
    (t : ℕ) × (get_or times k None ≡ Some t) × ((j u : ℕ) → get_or times j None ≡ Some u → t ≤ u)

-- the time in this place is the earliest; none if there is no time
abbrev pub IsLeast : List (Option ℕ) → Option (ℕ × ℕ) → Type 0
IsLeast times None = (k : ℕ) → get_or times k None ≡ None
IsLeast times (Some (k, t)) = (get_or times k None ≡ Some t) × ((j u : ℕ) → get_or times j None ≡ Some u → t ≤ u)
