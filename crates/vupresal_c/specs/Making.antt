-- Connections and requests that C makes once for many decisions (this project's own): what is made, and why nothing is.
use Rattle.std.specs.Prelude.{◌≡◌, List, Option, Some, IsSomeAnd, IsTrue, ℕ}
use Rattle.attributes.specs.Conn.{Facts}
use Rattle.attributes.specs.Limits.{largest}
use Rattle.attributes.specs.Request.{RequestValue}
use Rattle.c_inputs.specs.Facts.{AreAccepted, AreInRange, AreTexts, facts_given}
use Rattle.c_inputs.specs.Requests.{HasProtocol, are_too_long, parts_given}
use Rattle.c_inputs.specs.declared.facts.FactsInput.{FactsInput}
use Rattle.c_inputs.specs.declared.request.RequestInput.{RequestInput}
use Rattle.http_front.specs.Asks.{HasFault, HeadAsks, IsUnfinished}
use Rattle.http_front.specs.Parts.{PartsAsk, PartsValue}
use Rattle.http_front.specs.declared.fault.HeadFault.{HeadFault}
use Rattle.proto_wire.specs.declared.refusal.Refusal.{Refusal}
use Rattle.vupresal_c.specs.Decisions.{GivenFault}
use Rattle.vupresal_c.specs.declared.fault.Fault.{Fault}
use Rattle.vupresal_c.specs.declared.fault.Fault.TheVariants.{Empty, OutOfRange, Refused, OutOfSteps, BadFacts, Unfinished, Head}

-- ---- connections

-- the facts are those of a connection, which the handle has
abbrev pub IsOpened : FactsInput → Option Facts → Type 0
IsOpened given held = AreAccepted given × (held ≡ Some (facts_given given))

-- the facts are those of no connection, with this fault; or memory ran out
abbrev pub ConnectionFails : FactsInput → Fault → Type 0
ConnectionFails given Empty = ⊥
ConnectionFails given OutOfRange = AreInRange given → ⊥
ConnectionFails given (Refused refusal) = refusal ≡ Refusal.Memory
ConnectionFails given OutOfSteps = ⊥
ConnectionFails given BadFacts = AreTexts given → ⊥
ConnectionFails given Unfinished = ⊥
ConnectionFails given (Head fault) = ⊥

-- ---- requests, within the greatest limits

-- on a connection with these facts, the parts ask for the request; their protocol is one
abbrev pub IsOfParts : RequestInput → Facts → RequestValue → Type 0
IsOfParts request facts r = HasProtocol request × PartsAsk (parts_given request) largest facts r

-- on a connection with these facts, the head asks for the request
abbrev pub IsOfHead : List ℕ → Facts → RequestValue → Type 0
IsOfHead head facts r = HeadAsks head largest facts r

-- there is a connection, and the handle has a request that was made on it
abbrev pub Makes : (Facts → RequestValue → Type 0) → Option Facts → Option RequestValue → Type 0
Makes Is connection made = IsSomeAnd connection (λ facts. IsSomeAnd made (Is facts))

-- no request is made, with this fault. `Has` says which faults the request has. `IsOpen` says that its bytes are no whole
-- head yet, and `IsOut` that a number is out of its range
abbrev pub MakeNone : (HeadFault → Type 0) → (IsOpen IsOut : Type 0) → Fault → Type 0
MakeNone Has IsOpen IsOut Empty = ⊥
MakeNone Has IsOpen IsOut OutOfRange = IsOut
MakeNone Has IsOpen IsOut (Refused refusal) = refusal ≡ Refusal.Memory
MakeNone Has IsOpen IsOut OutOfSteps = ⊥
MakeNone Has IsOpen IsOut BadFacts = ⊥
MakeNone Has IsOpen IsOut Unfinished = IsOpen
MakeNone Has IsOpen IsOut (Head fault) = Has fault

-- the parts make no request, with this fault
abbrev pub PartsMakeNone : RequestInput → Facts → Fault → Type 0
PartsMakeNone request facts = MakeNone (GivenFault (parts_given request) facts largest) ⊥ (HasProtocol request → ⊥)

-- the head makes no request, with this fault
abbrev pub HeadMakesNone : List ℕ → Facts → Fault → Type 0
HeadMakesNone head facts = MakeNone (HasFault head largest facts) (IsUnfinished head) ⊥

-- the handle has a connection, and the parts are outside the greatest limits by their lengths alone
abbrev pub AreTooLongOn : PartsValue → Option Facts → Type 0
AreTooLongOn parts held = IsSomeAnd held (λ facts. IsTrue (are_too_long largest parts))
