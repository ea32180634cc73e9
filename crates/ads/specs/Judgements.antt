-- The judgements of the responses of a stream, beside the answers to them, and why the stream ends (this project's
-- own).
use Rattle.std.specs.Prelude.{◌≡◌, ◌≢◌, ◌⊎◌, ℕ, zero, suc, Option, Some, None, List, [], ◌∷◌, ◌++◌, map, is_some}
use Rattle.std.specs.List.{AllZip}
use Rattle.std.specs.String.{string_bytes}
use Rattle.attributes.specs.Limits.{LimitsValue}
use Rattle.proto_wire.specs.Places.{FaultOr}
use Rattle.proto_wire.specs.declared.placed.Fault.{Fault as Placed}
use Rattle.proto_wire.specs.declared.refusal.Refusal.{Refusal}
use Rattle.xds_wire.specs.Discovery.{ExtensionMessage, IsResponse, RequestMessage, ResponseFault, ResponseMessage}
use Rattle.proto_wire.specs.Merge.{SomeOf}
use Rattle.xds_wire.specs.Frames.{Cut, Tail}
use Rattle.cost_bound.specs.declared.budget.Budget.{Budget}
use Rattle.rbac_policy.specs.Admission.{Fault}
use Rattle.rbac_policy.specs.Budget.{OverAt}
use Rattle.rbac_policy.specs.Places.{PlacedOr, of_filter}
use Rattle.ads.specs.Answer.{Accepted, Accepts, HoldsFilter, HoldsFilterOf, IsResource, RefusesNothing, ResourceFault, ack_of, extension_type, nack_of, named}
use Rattle.ads.specs.Client.{ClientValue, IsFrameThen, ended_by, fault_in, most_bytes}
use Rattle.ads.specs.Config.{ConfigValue, FilterValue}
use Rattle.ads.specs.declared.ended.Ended.{Ended}
use Rattle.ads.specs.declared.ended.Ended.TheVariants as ended
use Rattle.ads.specs.declared.judgement.Judgement.{Judgement}
use Rattle.ads.specs.declared.judgement.ResponseOutcome.{ResponseOutcome}
use Rattle.ads.specs.declared.judgement.ResponseOutcome.TheVariants as outcomes

-- the response itself or one of its resources is wrong, for this reason
abbrev pub IsWrong : ResponseMessage → Refusal → Type 0
IsWrong response e = ((response.type_url ≢ extension_type) × (e ≡ Refusal.WrongType))
    ⊎ SomeOf (λ any. ResourceFault any e) response.resources

-- why a filter refuses the extensions of a response. Two have its name, or one has it and holds no filter's message, or
-- that message, which has these bytes, is not admitted. The place is then that of a part that has the fault, or of the
-- condition with which they take more than the filter's budget
pub data Unfit (limits : LimitsValue) (extensions : List ExtensionMessage) (f : FilterValue) (fault : Placed)
    (bytes : List ℕ) : Type 0 where
  two_extensions : (x y : ExtensionMessage) (more : List ExtensionMessage) → named f.name extensions ≡ x ∷ y ∷ more
      → fault.refusal ≡ Refusal.DuplicateResource → bytes ≡ [] → Unfit limits extensions f fault bytes
  another_type : (x : ExtensionMessage) → named f.name extensions ≡ x ∷ []
      → ((held : List ℕ) → HoldsFilter x held → ⊥) → fault.refusal ≡ Refusal.WrongType → bytes ≡ []
      → Unfit limits extensions f fault bytes
  message_refused : HoldsFilterOf extensions f bytes → FaultOr (λ e. Fault e bytes limits f.budget) fault
      → (left : Budget) → PlacedOr (OverAt bytes limits f.budget left) (of_filter bytes) fault
      → Unfit limits extensions f fault bytes

-- `P` holds of the element at the place, and `Q` of each before it
abbrev pub FirstAt : {A : Type 0} → (A → Type 0) → (A → Type 0) → ℕ → List A → Type 0
FirstAt Q P n [] = ⊥
FirstAt Q P zero (x ∷ xs) = P x
FirstAt Q P (suc n) (x ∷ xs) = Q x × FirstAt Q P n xs

-- the first filter of the configuration that refuses the response is the one at this place
pub record IsRefusedBy (c : ConfigValue) (response : ResponseMessage) (place : ℕ) (fault : Placed) (bytes : List ℕ)
    : Type 0 where
  pub extensions : List ExtensionMessage
  pub type_url : response.type_url ≡ extension_type
  pub reads : AllZip IsResource response.resources extensions
  pub first : FirstAt (RefusesNothing c.limits extensions) (λ f. Unfit c.limits extensions f fault bytes) place c.filters

-- the response is refused because of this fault: by the filter at this place, or, without a place, as wrong itself
abbrev pub IsRefusedAs : ConfigValue → ResponseMessage → Placed → Option ℕ → List ℕ → Type 0
IsRefusedAs c response fault None bytes = IsWrong response fault.refusal × (bytes ≡ [])
IsRefusedAs c response fault (Some place) bytes = IsRefusedBy c response place fault bytes

-- the outcome of a response, its answer, and the accepted state after it. An accepted response says which filters it
-- gives policies
abbrev pub HasOutcome : ConfigValue → ResponseMessage → Accepted → ResponseOutcome → RequestMessage → Accepted → Type 0
HasOutcome c response old (outcomes.Accepted given) reply new = (accepts : Accepts c response old new)
    × (given.items ≡ map is_some accepts.given) × (reply ≡ ack_of c response)
HasOutcome c response old (outcomes.Refused r) reply new =
    IsRefusedAs c response r.fault r.filter r.message.items × (new ≡ old)
    × (reply ≡ nack_of c old response r.fault.refusal)

-- the judgement of a response, its answer, and the accepted state after it
pub record IsJudgedAs (c : ConfigValue) (response : ResponseMessage) (old : Accepted) (j : Judgement)
    (reply : RequestMessage) (new : Accepted) : Type 0 where
  pub version : string_bytes j.version ≡ response.version_info
  pub nonce : string_bytes j.nonce ≡ response.nonce
  pub outcome : HasOutcome c response old j.outcome reply new

-- the message is not a response, because of this fault: it gets no answer, changes nothing and ends the stream
abbrev pub EndsFor : List ℕ → Accepted → List Judgement → List ℕ → Accepted → Option Ended → Type 0
EndsFor message old judgements replies new reason =
    ((e : Refusal) × ResponseFault message e × (reason ≡ Some (ended.BadMessage e)))
    × (judgements ≡ []) × (replies ≡ []) × (new ≡ old)

-- the messages of a stream are answered in order, and these are the judgements of its responses: one for each answer,
-- in the same order. If a message ended the stream, this is the reason
abbrev pub AreJudged : ConfigValue → Accepted → List (List ℕ) → List Judgement → List ℕ → Accepted → Option Ended
    → Type 0
AreJudged c old [] judgements replies new reason =
    (judgements ≡ []) × (replies ≡ []) × (new ≡ old) × (reason ≡ None)
AreJudged c old (message ∷ messages) judgements replies new reason =
    EndsFor message old judgements replies new reason
    ⊎ ((response : ResponseMessage) × (j : Judgement) × (reply : RequestMessage) × (next : Accepted)
    × (later : List Judgement) × (more : List ℕ) × IsResponse message response
    × IsJudgedAs c response old j reply next × (judgements ≡ j ∷ later) × IsFrameThen reply replies more
    × AreJudged c next messages later more new reason)

-- the bytes of a stream with unfinished bytes complete these responses, and may end the stream
pub record ReportsJudgements (old : ClientValue) (rest bytes replies : List ℕ) (judgements : List Judgement)
    (ends : Option Ended) (new : ClientValue) : Type 0 where
  pub messages : List (List ℕ)
  pub tail : Tail
  pub reason : Option Ended
  pub cut : Cut (rest ++ bytes) most_bytes messages tail
  pub judged : AreJudged old.config old.accepted messages judgements replies new.accepted reason
  pub reported : ends ≡ ended_by reason (fault_in tail)

-- bytes arrive: the judgements of the responses that they complete, beside the answers, and why the stream ends. There
-- are no judgements if no stream is up
abbrev pub ReportsJudgementsBy : Option (List ℕ) → ClientValue → List ℕ → List ℕ → List Judgement → Option Ended → ClientValue
    → Type 0
ReportsJudgementsBy None old bytes replies judgements ends new = (judgements ≡ []) × (ends ≡ Some ended.NotUp)
ReportsJudgementsBy (Some rest) old bytes replies judgements ends new = ReportsJudgements old rest bytes replies judgements ends new
