-- The version of the library (this project's own).
use Rattle.std.specs.Prelude.{ℕ, Bool, true}

-- 0.1.0: a million for each first number, a thousand for each second one
abbrev pub number : ℕ
number = 1000

-- a library with a proof says so
abbrev pub is_proved : Bool
is_proved = true
