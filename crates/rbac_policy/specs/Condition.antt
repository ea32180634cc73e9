-- Conditions: Envoy RBAC, "Policy.condition" and "Policy.checked_condition"; CEL language definition, "Evaluation".
use Rattle.std.specs.Prelude.{◌≡◌, ◌⊎◌, ℕ, Bool, true, false, List, [], Option, Some}
use Rattle.attributes.specs.Limits.{LimitsValue}
use Rattle.attributes.specs.Request.{RequestValue}
use Rattle.cel_value.specs.Types.{bool_type}
use Rattle.cel_value.specs.Values.{CelAnswer, bool, value}
use Rattle.cel_tree.specs.Checked.{CelChecked}
use Rattle.cel_types.specs.Elaborated.{IsElaborated, TypedTree, kind}
use Rattle.cel_types.specs.Meaning.{eval}
use Rattle.cel_costs.specs.Costs.{cost_of}
use Rattle.cel_costs.specs.Visits.{visits_of}
use Rattle.cel_compile.specs.Codes.{code_of}
use Rattle.machine_code.specs.Instructions.{Instruction}
use Rattle.machine_code.specs.Machine.{RunsOut}
use Rattle.stack_machine.specs.declared.error.RunError.{RunError}

-- whether an expression's answer is true: an error is not, and neither is any other value
abbrev pub came_true : Option CelAnswer → Bool
came_true (Some (value (bool true))) = true
came_true _ = false

-- whether the request meets the condition
abbrev pub is_met : RequestValue → CelChecked → Bool
is_met request condition = came_true (eval condition.tree request [])

-- what is enforced for a condition: its code, and how many steps the code may take. With it goes how many visits
-- this bound took
pub record Program : Type 0 where
  pub code : List Instruction
  pub bound : ℕ
  pub visits : ℕ

-- the condition has the type bool; this is its code, and what it costs for requests within the limits, in steps
-- and in visits
pub record IsProgramOf (limits : LimitsValue) (condition : CelChecked) (program : Program) : Type 0 where
  pub e : TypedTree
  pub elaborated : IsElaborated condition e
  pub has_type : kind e ≡ bool_type
  pub code : program.code ≡ code_of 0 0 e
  pub bound : program.bound ≡ cost_of e limits []
  pub visits : program.visits ≡ visits_of e limits []

-- on the request, the condition's code takes more steps than it may
abbrev pub TakesTooLong : LimitsValue → RequestValue → CelChecked → Type 0
TakesTooLong limits request condition = (program : Program) × IsProgramOf limits condition program
    × RunsOut program.code request program.bound

-- the error is out of memory, or out of steps for this cause
abbrev pub MemoryOrSteps : Type 0 → RunError → Type 0
MemoryOrSteps Cause e = (e ≡ RunError.Memory) ⊎ ((e ≡ RunError.OutOfSteps) × Cause)
