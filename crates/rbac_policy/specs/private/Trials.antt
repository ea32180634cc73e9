-- The reasons of policies, by the runs of their conditions.
use Rattle.std.specs.Prelude.{◌≡◌, ◌≤◌, ℕ}
use Rattle.attributes.specs.Request.{RequestValue}
use Rattle.cel_value.specs.Values.{CelAnswer}
use Rattle.machine_code.specs.Machine.{Ends}
use Rattle.rbac_policy.specs.Condition.{Program}
use Rattle.rbac_policy.specs.Filter.{Policy}
use Rattle.rbac_policy.specs.Trials.{HasReason}
use Rattle.rbac_policy.specs.declared.reason.Reason.{Reason}

-- the program's run ends with this answer, within its bound
abbrev pub EndsWith : RequestValue → Program → CelAnswer → Type 0
EndsWith r program answer =
    (steps : ℕ) × Ends program.code r answer steps × (steps ≤ program.bound)

-- the program's run takes `steps` steps, and may take `bound`
abbrev pub TakesOf : RequestValue → Program → (steps bound : ℕ) → Type 0
TakesOf r program steps bound =
    (bound ≡ program.bound) × (answer : CelAnswer) × Ends program.code r answer steps

-- the enforced policy has this reason
abbrev pub HasRunReason : RequestValue → Policy Program → Reason → Type 0
HasRunReason r = HasReason (EndsWith r) (TakesOf r) r
