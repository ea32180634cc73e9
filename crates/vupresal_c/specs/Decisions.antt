-- Decisions for C (this project's own): the verdict on the request that is asked for, and why there is none.
use Rattle.std.specs.Prelude.{◌≡◌, ◌⊎◌, ℕ, Bool, true, false, IsTrue, List, Option, Some, None, IsSomeAnd, if◌then◌else◌}
use Rattle.attributes.specs.Conn.{Facts}
use Rattle.attributes.specs.Limits.{LimitsValue}
use Rattle.attributes.specs.Request.{RequestValue}
use Rattle.c_inputs.specs.Facts.{AreAccepted, AreInRange, AreTexts, facts_given}
use Rattle.c_inputs.specs.Requests.{HasProtocol, are_too_long, parts_given}
use Rattle.c_inputs.specs.declared.facts.FactsInput.{FactsInput}
use Rattle.c_inputs.specs.declared.request.RequestInput.{RequestInput}
use Rattle.cel_tree.specs.Checked.{CelChecked}
use Rattle.http_front.specs.Asks.{HasFault, HeadAsks, IsUnfinished}
use Rattle.http_front.specs.Parts.{PartsAsk, PartsFault, PartsValue}
use Rattle.http_front.specs.declared.fault.HeadFault.{HeadFault}
use Rattle.http_front.specs.declared.fault.HeadFault.TheVariants.{OutsideLimits}
use Rattle.proto_wire.specs.declared.refusal.Refusal.{Refusal}
use Rattle.rbac_policy.specs.Admission.{IsAdmittedAs}
use Rattle.rbac_policy.specs.Admitted.{filter_view, limits_view}
use Rattle.rbac_policy.specs.Condition.{is_met}
use Rattle.rbac_policy.specs.Filter.{Filter}
use Rattle.rbac_policy.specs.Verdict.{IsVerdict}
use Rattle.rbac_policy.specs.declared.filter.Admitted.{Admitted}
use Rattle.rbac_policy.specs.declared.filter.Verdict.{Verdict}
use Rattle.vupresal_c.specs.declared.decision.Decision.{Decision}
use Rattle.vupresal_c.specs.declared.fault.Fault.{Fault}
use Rattle.vupresal_c.specs.declared.fault.Fault.TheVariants.{Empty, OutOfRange, Refused, OutOfSteps, BadFacts, Unfinished, Head}

-- ---- decisions

-- the number of the policy that matches, if one does
abbrev pub matched_in : Decision → Option ℕ
matched_in d = if d.is_matched then Some d.matched else None

-- the decision that refuses, and names no policy
abbrev pub refused : Decision
refused = record { matched = 0; is_matched = false; is_allowed = false }

-- the decision of a verdict with these parts: whether it allows, and the policy that matched, if one did
abbrev pub decision_with : Bool → Option ℕ → Decision
decision_with allowed (Some k) = record { matched = k; is_matched = true; is_allowed = allowed }
decision_with allowed None = record { matched = 0; is_matched = false; is_allowed = allowed }

-- the decision that says a verdict: whether the request is allowed, and which policy matched
abbrev pub decision_of : Verdict → Decision
decision_of v = decision_with v.allowed v.matched

-- ---- the request that is asked for

-- which requests are asked for, within these limits
abbrev pub Asking : Type 1
Asking = LimitsValue → RequestValue → Type 0

-- the facts are those of a connection, on which the head asks for the request
abbrev pub AsksByHead : List ℕ → FactsInput → Asking
AsksByHead head given limits r = AreAccepted given × HeadAsks head limits (facts_given given) r

-- the facts are those of a connection, on which the parts ask for the request; their protocol is one
abbrev pub AsksByParts : RequestInput → FactsInput → Asking
AsksByParts request given limits r =
    AreAccepted given × HasProtocol request × PartsAsk (parts_given request) limits (facts_given given) r

-- the verdict of every written filter that may be enforced as this one
abbrev pub Judges : Admitted → RequestValue → Bool → Option ℕ → Type 0
Judges a r allowed matched = (filter : Filter CelChecked) → IsAdmittedAs (limits_view a) filter (filter_view a)
    → IsVerdict (is_met r) r filter allowed matched

-- the verdict on a request that is asked for
abbrev pub IsAnswer : Asking → Admitted → Verdict → Type 0
IsAnswer Asks a v = (r : RequestValue) × Asks (limits_view a) r × Judges a r v.allowed v.matched

-- the decision on a request that is asked for
abbrev pub IsDecision : Asking → Admitted → Decision → Type 0
IsDecision Asks a d = (r : RequestValue) × Asks (limits_view a) r × Judges a r d.is_allowed (matched_in d)

-- ---- why there is no decision

-- no bytes were admitted as this filter; so this is never the case
abbrev pub WasNeverAdmitted : Admitted → Type 0
WasNeverAdmitted a = (filter : Filter CelChecked) → IsAdmittedAs (limits_view a) filter (filter_view a) → ⊥

-- the filter has no decision, with this fault. `Has` says which faults the request has within these limits. `IsOpen`
-- says that its bytes are no whole head yet, and `IsOut` that a number is out of its range
abbrev pub FailsFor : (LimitsValue → HeadFault → Type 0) → (IsOpen IsOut : Type 0) → FactsInput → Admitted → Fault → Type 0
FailsFor Has IsOpen IsOut facts a Empty = ⊥
FailsFor Has IsOpen IsOut facts a OutOfRange = IsOut
FailsFor Has IsOpen IsOut facts a (Refused refusal) = refusal ≡ Refusal.Memory
FailsFor Has IsOpen IsOut facts a OutOfSteps = WasNeverAdmitted a
FailsFor Has IsOpen IsOut facts a BadFacts = AreTexts facts → ⊥
FailsFor Has IsOpen IsOut facts a Unfinished = IsOpen
FailsFor Has IsOpen IsOut facts a (Head fault) = Has (limits_view a) fault

-- the filter has no decision on a head, with this fault
abbrev pub HeadFailsFor : List ℕ → FactsInput → Admitted → Fault → Type 0
HeadFailsFor head given = FailsFor (λ limits fault. HasFault head limits (facts_given given) fault) (IsUnfinished head)
    (AreInRange given → ⊥) given

-- the parts have this fault: they are outside the limits by their lengths alone, or it is one of the head that they spell
abbrev pub GivenFault : PartsValue → Facts → LimitsValue → HeadFault → Type 0
GivenFault parts facts limits fault =
    (IsTrue (are_too_long limits parts) × (fault ≡ OutsideLimits)) ⊎ PartsFault parts limits facts fault

-- the fault of parts that are outside the limits by their lengths alone
abbrev pub too_long : Fault
too_long = Head OutsideLimits

-- a port or an address of the facts is none, or the number of the protocol is that of none
abbrev pub AreOutOfRange : RequestInput → FactsInput → Type 0
AreOutOfRange request given = (AreInRange given → ⊥) ⊎ (HasProtocol request → ⊥)

-- the filter has no decision on a request by its parts, with this fault
abbrev pub PartsFailFor : RequestInput → FactsInput → Admitted → Fault → Type 0
PartsFailFor request given = FailsFor (GivenFault (parts_given request) (facts_given given)) ⊥
    (AreOutOfRange request given) given

-- the handle has a filter, and the parts are outside its limits by their lengths alone
abbrev pub AreTooLongFor : PartsValue → Option Admitted → Type 0
AreTooLongFor parts held = IsSomeAnd held (λ a. IsTrue (are_too_long (limits_view a) parts))

-- there is no answer, with this fault: the handle is empty, or what it holds gives none
abbrev pub Fails : {A : Type 0} → Option A → (A → Fault → Type 0) → Fault → Type 0
Fails None For e = e ≡ Empty
Fails (Some a) For e = For a e
