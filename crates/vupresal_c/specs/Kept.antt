-- Decisions on requests that were made before (this project's own): the verdict, and why there is none.
use Rattle.std.specs.Prelude.{◌≡◌, ◌≤◌, Option, IsSomeAnd}
use Rattle.attributes.specs.Limits.{InLimits, LimitsValue}
use Rattle.attributes.specs.Request.{RequestValue}
use Rattle.http_front.specs.declared.fault.HeadFault.TheVariants.{OutsideLimits}
use Rattle.proto_wire.specs.declared.refusal.Refusal.{Refusal}
use Rattle.rbac_policy.specs.Admitted.{limits_view}
use Rattle.rbac_policy.specs.declared.filter.Admitted.{Admitted}
use Rattle.vupresal_c.specs.Decisions.{Asking, Fails, WasNeverAdmitted}
use Rattle.vupresal_c.specs.declared.fault.Fault.{Fault}
use Rattle.vupresal_c.specs.declared.fault.Fault.TheVariants.{Empty, OutOfRange, Refused, OutOfSteps, BadFacts, Unfinished, Head}

-- the request is within the limits, and so is the head that spells it: the text of its protocol has 8 bytes
abbrev pub FitsAsHead : RequestValue → LimitsValue → Type 0
FitsAsHead r limits = InLimits r limits × (8 ≤ limits.text)

-- the request of a handle is asked for, and it is within the limits
abbrev pub AsksForHeld : Option RequestValue → Asking
AsksForHeld held limits r = IsSomeAnd held (λ it. r ≡ it) × FitsAsHead r limits

-- the filter has no decision on the request, with this fault
abbrev pub RequestFailsFor : Admitted → RequestValue → Fault → Type 0
RequestFailsFor a r Empty = ⊥
RequestFailsFor a r OutOfRange = ⊥
RequestFailsFor a r (Refused refusal) = refusal ≡ Refusal.Memory
RequestFailsFor a r OutOfSteps = WasNeverAdmitted a
RequestFailsFor a r BadFacts = ⊥
RequestFailsFor a r Unfinished = ⊥
RequestFailsFor a r (Head fault) = (fault ≡ OutsideLimits) × (FitsAsHead r (limits_view a) → ⊥)

-- the filter has no decision on the request of a handle, with this fault; the handle may be empty
abbrev pub HeldFailsFor : Option RequestValue → Admitted → Fault → Type 0
HeldFailsFor held a e = Fails held (RequestFailsFor a) e
