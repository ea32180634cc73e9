-- How many connections a limit of open files leaves room for (this project's own; docs/OPERATING.md, "Limits of the process").
use Rattle.std.specs.Prelude.{ℕ, ◌-◌, max, min}

-- as many as the limit has beside 64 others, but at least one, and no more than are set
abbrev pub fitting_below : ℕ → ℕ → ℕ
fitting_below connections limit = min connections (max (limit - 64) 1)
