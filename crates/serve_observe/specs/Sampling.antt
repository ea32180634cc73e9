-- One in so many (this project's own; docs/OPERATING.md, "The logs of a server").
use Rattle.std.specs.Prelude.{ℕ, ◌+◌, ◌-◌, ◌^◌, min}

-- so many and one more, unless it is the greatest number
abbrev pub one_more : ℕ → ℕ
one_more passed = min (passed + 1) (2 ^ 64 - 1)
