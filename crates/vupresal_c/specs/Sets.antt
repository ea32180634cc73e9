-- Sets of filters (this project's own): what is added, and what the filters decide in order.
use Rattle.std.specs.Prelude.{◌≡◌, ◌⊎◌, ◌++◌, ℕ, suc, true, false, List, [], ◌∷◌, Option, Some, IsSomeAnd, length, slice_get, take}
use Rattle.std.specs.List.{AllByRecursion}
use Rattle.attributes.specs.Request.{RequestValue}
use Rattle.rbac_policy.specs.declared.filter.Admitted.{Admitted}
use Rattle.vupresal_c.specs.Decisions.{IsAnswer, IsDecision, decision_of, refused}
use Rattle.vupresal_c.specs.Kept.{AsksForHeld, HeldFailsFor}
use Rattle.vupresal_c.specs.declared.by_set.Decider.{Decider}
use Rattle.vupresal_c.specs.declared.by_set.SetDecision.{SetDecision}
use Rattle.vupresal_c.specs.declared.decision.Decision.{Decision}
use Rattle.vupresal_c.specs.declared.fault.Fault.{Fault}
use Rattle.vupresal_c.specs.declared.fault.Fault.TheVariants.{Empty}

-- the filter of a handle was added as the last
abbrev pub IsAdded : Option Admitted → List Admitted → List Admitted → Type 0
IsAdded held old new = IsSomeAnd held (λ a. new ≡ old ++ (a ∷ []))

-- the filter lets the request of a handle through
abbrev pub LetsThrough : Option RequestValue → Admitted → Type 0
LetsThrough held a = (d : Decision) × IsDecision (AsksForHeld held) a d × (d.is_allowed ≡ true)

-- the filter of this number is tried: all before it let the request through
abbrev pub IsTried : Option RequestValue → List Admitted → ℕ → Admitted → Type 0
IsTried held filters k a = (slice_get filters k ≡ Some a) × AllByRecursion (LetsThrough held) (take k filters)

-- the decision is that of the first filter that refuses the request of a handle; if none refuses, of the last
abbrev pub IsSetDecision : List Admitted → Option RequestValue → SetDecision → Type 0
IsSetDecision filters held d = (a : Admitted) × IsTried held filters d.filter a
    × IsDecision (AsksForHeld held) a d.decision
    × ((d.decision.is_allowed ≡ false) ⊎ (suc d.filter ≡ length filters))

-- the filters have no decision, with this fault: there is none, or the first that does not let the request through has none
abbrev pub SetFails : List Admitted → Option RequestValue → Fault → Type 0
SetFails filters held e = ((filters ≡ []) × (e ≡ Empty))
    ⊎ ((k : ℕ) × (a : Admitted) × IsTried held filters k a × HeldFailsFor held a e)

-- ---- how they are made

-- the decision that refuses, and names no filter but the first
abbrev pub refused_by_none : SetDecision
refused_by_none = record { decision = refused; filter = 0 }

-- the decision of the filter that decides
abbrev pub set_decision_of : Decider → SetDecision
set_decision_of d = record { decision = decision_of d.verdict; filter = d.number }

-- the verdict is that of the filter that decides on the request of a handle
abbrev pub IsSetAnswer : List Admitted → Option RequestValue → Decider → Type 0
IsSetAnswer filters held d = (a : Admitted) × IsTried held filters d.number a
    × IsAnswer (AsksForHeld held) a d.verdict
    × ((d.verdict.allowed ≡ false) ⊎ (suc d.number ≡ length filters))
