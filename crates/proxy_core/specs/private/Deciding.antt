-- Decisions of filters, in order (this project's own).
use Rattle.std.specs.Prelude.{◌≡◌, ⊤, ℕ, Option, List, ◌++◌, map, IfSome}
use Rattle.attributes.specs.Limits.{InLimits, LimitsValue}
use Rattle.attributes.specs.Request.{RequestValue}
use Rattle.cel_tree.specs.Checked.{CelChecked}
use Rattle.rbac_policy.specs.Admission.{IsAdmittedAs}
use Rattle.rbac_policy.specs.Filter.{Filter}
use Rattle.ads.specs.Answer.{Accepted, AdmittedValue}
use Rattle.http_front.specs.Answer.{ReplyValue, answer_of}
use Rattle.http_front.specs.declared.ask.Ask.{Ask}
use Rattle.http_front.specs.declared.ask.Ask.TheVariants.{Judge, Fault}
use Rattle.proxy_core.specs.Chain.{Chain, ChainAsks, IsReplyTo, IsUnready, VerdictValue}
use Rattle.proxy_core.specs.Step.{AsksAsWritten, DecidesAsWritten}
use Rattle.proxy_core.specs.declared.chain.Tried.{Tried}
use Rattle.proxy_core.specs.declared.chain.Tried.TheVariants as tried

-- the filter, if it has policies, was admitted, and the request is within the limits of its admission
abbrev pub CanDecide : RequestValue → Option AdmittedValue → Type 0
CanDecide r filter = IfSome filter (λ a. ∥ ((rules : Filter CelChecked) × IsAdmittedAs a.limits rules a.filter) ∥₁
    × InLimits r a.limits)

-- the result of trying the filters in order
abbrev pub IsTried : RequestValue → List (Option AdmittedValue) → Tried → Type 0
IsTried r filters (tried.Decided is_allowed matches) = (verdicts : List VerdictValue)
    × Chain DecidesAsWritten AsksAsWritten r filters verdicts is_allowed
    × (matches.items ≡ map (λ v. v.matched) verdicts)
IsTried r filters tried.NoMemory = ChainAsks DecidesAsWritten AsksAsWritten r filters

-- the request of an ask, if it has one, is within the limits
abbrev pub AskInLimits : LimitsValue → Ask → Type 0
AskInLimits limits (Judge r closes) = InLimits r limits
AskInLimits limits (Fault fault) = ⊤

-- no filter is tried for the ask: its head has a fault, or a filter has no policies
abbrev pub TriesNoFilter : Accepted → Ask → Type 0
TriesNoFilter accepted (Judge r closes) = IsUnready DecidesAsWritten AsksAsWritten accepted.policies
TriesNoFilter accepted (Fault fault) = ⊤

-- the answer to the ask is appended
abbrev pub AddsReply : Accepted → Ask → List ℕ → List ℕ → Type 0
AddsReply accepted ask before after = (reply : ReplyValue)
    × IsReplyTo DecidesAsWritten AsksAsWritten accepted ask reply × (after ≡ before ++ answer_of reply)
