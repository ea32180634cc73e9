-- The charges of calls by overload; the machine has these charges by instruction.
use Rattle.std.specs.Prelude.{ℕ, List, [], ◌∷◌}
use Rattle.cel_value.specs.Values.{CelAnswer}
use Rattle.cel_ops.specs.Operations.{Work, takes_one, takes_two, work}
use Rattle.cel_overload.specs.declared.overload.Overload.{Overload}
use Rattle.cel_overload.specs.declared.overload.Overload.TheVariants as overloads

-- the charge of one operand
abbrev pub charge_of_one : (CelAnswer → ℕ) → List CelAnswer → ℕ
charge_of_one charge (a ∷ []) = charge a
charge_of_one charge _ = 1

-- the charge of two operands
abbrev pub charge_of_two : (CelAnswer → CelAnswer → ℕ) → List CelAnswer → ℕ
charge_of_two charge (a ∷ b ∷ []) = charge a b
charge_of_two charge _ = 1

-- the charge of an operation
abbrev pub operands_charge : Work → List CelAnswer → ℕ
operands_charge (takes_one answer charge) = charge_of_one charge
operands_charge (takes_two answer charge) = charge_of_two charge

-- the charge of an overload: 1 for a conditional, whose jumps are charged as instructions
abbrev pub overload_charge : Overload → List CelAnswer → ℕ
overload_charge overloads.Conditional = λ answers. 1
overload_charge (overloads.Operate op) = operands_charge (work op)
