-- The answers and charges of operations: one table (CEL language definition, "List of Standard Definitions"; this
-- project's measure).
use Rattle.std.specs.Prelude.{ℕ, Option, None}
use Rattle.cel_value.specs.Values.{CelAnswer}
use Rattle.cel_ops.specs.Arithmetic.{arithmetic, opposite}
use Rattle.cel_ops.specs.Logic.{conjunction, disjunction, logical_not, not_strictly_false}
use Rattle.cel_ops.specs.Comparison.{comparison}
use Rattle.cel_ops.specs.Parts.{text_test, joined}
use Rattle.cel_ops.specs.Collections.{size, list_index, map_index, in_map, in_list}
use Rattle.cel_ops.specs.Conversions.{conversion}
use Rattle.cel_ops.specs.Charges.{comparison_charge, conversion_charge, joined_charge, size_charge, map_index_charge, in_map_charge, in_list_charge}
use Rattle.cel_ops.specs.declared.operation.Operation.{Operation}
use Rattle.cel_ops.specs.declared.operation.Operation.TheVariants as operations

-- the answer and the charge of an operation on one operand or on two; no answer if an operand is of a wrong kind
pub data Work : Type 0 where
  takes_one : (answer : CelAnswer → Option CelAnswer) → (charge : CelAnswer → ℕ) → Work
  takes_two : (answer : CelAnswer → CelAnswer → Option CelAnswer) → (charge : CelAnswer → CelAnswer → ℕ) → Work

-- ---- the table of operations

-- the answer and the charge of each operation
abbrev pub work : Operation → Work
work (operations.Arithmetic op) = takes_two (arithmetic op) (λ a b. 1)
work operations.Negate = takes_one opposite (λ a. 1)
work operations.Not = takes_one logical_not (λ a. 1)
work operations.NotStrictlyFalse = takes_one not_strictly_false (λ a. 1)
work operations.And = takes_two conjunction (λ a b. 1)
work operations.Or = takes_two disjunction (λ a b. 1)
work (operations.Compare op) = takes_two (comparison op) comparison_charge
work (operations.TestText test) = takes_two (text_test test) comparison_charge
work operations.Concat = takes_two joined joined_charge
work operations.Size = takes_one size size_charge
work operations.ListIndex = takes_two list_index (λ a b. 1)
work operations.MapIndex = takes_two map_index map_index_charge
work operations.InMap = takes_two in_map in_map_charge
work operations.InList = takes_two in_list in_list_charge
work (operations.Convert kind) = takes_one (conversion kind) (conversion_charge kind)

-- ---- answers and charges by the number of operands

-- the answer to one operand
abbrev pub one_answer : Work → CelAnswer → Option CelAnswer
one_answer (takes_one answer charge) a = answer a
one_answer (takes_two answer charge) a = None

-- the charge of one operand
abbrev pub one_charge : Work → CelAnswer → ℕ
one_charge (takes_one answer charge) a = charge a
one_charge (takes_two answer charge) a = 1

-- the answer to two operands
abbrev pub two_answer : Work → CelAnswer → CelAnswer → Option CelAnswer
two_answer (takes_one answer charge) a b = None
two_answer (takes_two answer charge) a b = answer a b

-- the charge of two operands
abbrev pub two_charge : Work → CelAnswer → CelAnswer → ℕ
two_charge (takes_one answer charge) a b = 1
two_charge (takes_two answer charge) a b = charge a b
