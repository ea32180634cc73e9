-- The headline: for every list of events, the proxy acknowledges exactly the responses whose policies are admissible. It
-- answers each request within the declared limits by CEL's meaning of the policies acknowledged before it. An error counts
-- as no match. No run lacks an operand, meets a wrong kind, leaves its code or exceeds its admitted steps. All this holds,
-- or memory runs out.
use Rattle.std.specs.Prelude.{◌≡◌, ◌≤◌, ℕ, List, [], ◌∷◌, Option, Some, IfSome, IsSomeAnd}
use Rattle.std.specs.FinMap.{get}
use Rattle.std.specs.List.{AllByRecursion}
use Rattle.attributes.specs.Limits.{InLimits, LimitsValue}
use Rattle.attributes.specs.Request.{IsRequest, RequestValue}
use Rattle.cel_tree.specs.Checked.{CelChecked}
use Rattle.cel_types.specs.Meaning.{eval}
use Rattle.cel_value.specs.Values.{CelAnswer}
use Rattle.proto_wire.specs.declared.refusal.Refusal.{Refusal}
use Rattle.xds_wire.specs.Discovery.{ResponseMessage}
use Rattle.rbac_policy.specs.Condition.{IsProgramOf, Program}
use Rattle.machine_code.specs.Machine.{Ends, NeverStuck}
use Rattle.ads.specs.Config.{ConfigValue}
use Rattle.ads.specs.Answer.{AcceptsAs, IsAdmitting, Refuses, ack_of, nack_of}
use Rattle.http_front.specs.declared.ask.Ask.{Ask}
use Rattle.http_front.specs.declared.ask.Ask.TheVariants.{Judge, Fault}
use Rattle.proxy_core.specs.Events.{EventValue, OutputValue}
use Rattle.proxy_core.specs.Chain.{AreRepliesTo}
use Rattle.proxy_core.specs.Run.{Acknowledged, AreRules, AskCondition, DecideByMeaning, Exchange, IsHistory, Moment, Rules, acknowledged_in, events_in, outputs_in}

-- the whole response is right, and each of its resources for a configured filter is admissible under the filter's
-- budget
abbrev pub IsAdmissible : ConfigValue → ResponseMessage → Type 0
IsAdmissible c response = (old new : Acknowledged) × AcceptsAs AreRules c response old new

-- the response is acknowledged exactly if it is admissible
pub data IsAnsweredExactly (c : ConfigValue) (old : Acknowledged) (x : Exchange) : Type 0 where
  -- it is acknowledged: it is admissible, its rules replace the old ones, and it has no fault
  acknowledged : x.reply ≡ ack_of c x.response → AcceptsAs AreRules c x.response old x.after
      → ((e : Refusal) → Refuses c x.response e → ⊥) → IsAnsweredExactly c old x
  -- it is refused, and changes nothing: it has the named fault, and is not admissible
  refused : (e : Refusal) → x.reply ≡ nack_of c old x.response e → Refuses c x.response e
      → (IsAdmissible c x.response → ⊥) → x.after ≡ old → IsAnsweredExactly c old x
  -- memory ran out while one of its filters was admitted: it is refused with code 8, and changes nothing
  out_of_memory : x.reply ≡ nack_of c old x.response Refusal.Memory → IsAdmitting c x.response → x.after ≡ old
      → IsAnsweredExactly c old x

-- `P` holds of each exchange, with what was acknowledged before it
abbrev pub EachOf : (Acknowledged → Exchange → Type 0) → Acknowledged → List Exchange → Type 0
EachOf P old [] = Unit {0}
EachOf P old (x ∷ exchanges) = P old x × EachOf P x.after exchanges

-- `P` holds of each moment of a history, with the past before it
abbrev pub EachMoment : (List Moment → Moment → Type 0) → List Moment → Type 0
EachMoment P [] = Unit {0}
EachMoment P (m ∷ past) = P past m × EachMoment P past

-- `P` holds of the history up to each time: before each of its events, and after the last
abbrev pub AtEachTime : (List Moment → Type 0) → List Moment → Type 0
AtEachTime P [] = P []
AtEachTime P (m ∷ past) = P (m ∷ past) × AtEachTime P past

-- the request is one within the limits: its texts are UTF-8, and its numbers are in their ranges
abbrev pub IsWithin : LimitsValue → RequestValue → Type 0
IsWithin limits r = IsRequest r × InLimits r limits

-- if the ask has a request, the request is one within the limits
abbrev pub AsksWithin : LimitsValue → Ask → Type 0
AsksWithin limits (Judge r closes) = IsWithin limits r
AsksWithin limits (Fault fault) = Unit {0}

-- the run of a condition's program is never stuck: it lacks no operand, meets no wrong kind and does not leave its
-- code. It ends with what the condition means, in at most the steps that it was admitted with
pub record RunsWell (condition : CelChecked) (program : Program) (r : RequestValue) : Type 0 where
  pub never_stuck : NeverStuck program.code r
  pub answer : CelAnswer
  pub means : eval condition.tree r [] ≡ Some answer
  pub steps : ℕ
  pub ends : Ends program.code r answer steps
  pub within : steps ≤ program.bound

-- the condition has exactly one program, which runs well on each request within the limits
pub record RunsWithin (limits : LimitsValue) (condition : CelChecked) : Type 0 where
  pub program : Program
  pub its : IsProgramOf limits condition program
  pub only : (other : Program) → IsProgramOf limits condition other → other ≡ program
  pub well : (r : RequestValue) → IsWithin limits r → RunsWell condition program r

-- each condition of the filter's rules, if it has rules, has exactly one program, which runs well
abbrev pub RunWell : LimitsValue → Option Rules → Type 0
RunWell limits filter = IfSome filter (λ rules. (name : List ℕ) (condition : CelChecked)
    → IsSomeAnd (get rules.policies name) (λ policy. policy.condition ≡ Some condition) → RunsWithin limits condition)

-- the headline, about a list of events and the list of their outputs
pub record Headline (c : ConfigValue) (events : List EventValue) (outputs : List OutputValue) : Type 0 where
  -- every list of events has a history, in which the bytes received so far determine each output
  pub history : List Moment
  pub happened : IsHistory c history
  pub of_events : events ≡ events_in history
  pub of_outputs : outputs ≡ outputs_in history
  -- a response is acknowledged exactly if it is admissible; otherwise it is refused for a fault that it has
  pub exactly : EachMoment (λ past m. EachOf (IsAnsweredExactly c) (acknowledged_in c past) m.exchanges) history
  -- each request within the limits is answered by CEL's meaning of the policies that were acknowledged before. An error
  -- counts as no match. A head with a fault is answered by that fault
  pub answered : EachMoment (λ past m.
      AreRepliesTo DecideByMeaning AskCondition (acknowledged_in c past) m.asks m.output.http) history
  -- each request of an ask is one within the limits
  pub asked : EachMoment (λ past m. AllByRecursion (AsksWithin c.limits) m.asks) history
  -- on such requests no run of an acknowledged condition is stuck or exceeds its admitted steps
  pub well : AtEachTime (λ past. AllByRecursion (RunWell c.limits) (acknowledged_in c past).policies) history
