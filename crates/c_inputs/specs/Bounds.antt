-- The limits of requests as a program in C gives them (this project's own): which limits they are.
use Rattle.std.specs.Prelude.{◌≡◌, ◌⊎◌, ℕ, Option, Some, None, ◌==◌, ◌&&◌, if◌then◌else◌, is_none}
use Rattle.attributes.specs.Limits.{LimitsValue, declared, first_fault, largest}
use Rattle.c_inputs.specs.declared.bounds.Bounds.{Bounds}

-- the six numbers
abbrev pub numbers : Bounds → LimitsValue
numbers b = declared b.fields b.name b.value b.method b.target b.text

-- the limits that are given: the greatest, if all six are 0; none, if one of them is 0 or above the greatest
abbrev pub limits_given : Bounds → Option LimitsValue
limits_given b =
    if b.fields == 0 && b.name == 0 && b.value == 0 && b.method == 0 && b.target == 0 && b.text == 0
    then Some largest else (if is_none (first_fault (numbers b)) then Some (numbers b) else None)
