-- What is counted under which name (this project's own; docs/OPERATING.md, "The admin port").
use Rattle.std.specs.Prelude.{Bool, true, false}
use Rattle.ads.specs.declared.judgement.ResponseOutcome.{ResponseOutcome}
use Rattle.ads.specs.declared.judgement.ResponseOutcome.TheVariants as outcomes
use Rattle.http_front.specs.Head.{fault_status}
use Rattle.http_front.specs.declared.answer.Case.{Case}
use Rattle.http_front.specs.declared.answer.Case.TheVariants as cases
use Rattle.serve_admin.specs.declared.verdict.Closed.{Closed}
use Rattle.serve_admin.specs.declared.verdict.Closed.TheVariants as ends
use Rattle.serve_admin.specs.declared.verdict.Verdict.{Verdict}
use Rattle.serve_admin.specs.declared.verdict.Verdict.TheVariants as verdicts
use Rattle.serve_loop.specs.declared.stream.CloseReason.{CloseReason}
use Rattle.serve_loop.specs.declared.stream.CloseReason.TheVariants as reasons

-- the verdict of `rbacd_requests_total`; of a fault with the status of its answer
abbrev pub counted_verdict : Case → Verdict
counted_verdict cases.Allow = verdicts.Allow
counted_verdict cases.Deny = verdicts.Deny
counted_verdict cases.Steps = verdicts.Steps
counted_verdict cases.Unready = verdicts.Unready
counted_verdict cases.Memory = verdicts.Memory
counted_verdict (cases.Fault fault) = verdicts.Fault (fault_status fault)

-- the reason of `rbacd_connections_closed_total` for a connection whose facts are outside the limits or not
abbrev pub counted_end : Bool → CloseReason → Closed
counted_end true reason = ends.Unfit
counted_end false reasons.Served = ends.Served
counted_end false reasons.Left = ends.Served
counted_end false reasons.Reset = ends.Reset
counted_end false reasons.Foreign = ends.Reset
counted_end false reasons.Slow = ends.HeadTimeout
counted_end false reasons.Idle = ends.IdleTimeout
counted_end false reasons.Silent = ends.IdleTimeout
counted_end false reasons.Full = ends.IdleFull
counted_end false reasons.Blocked = ends.WriteTimeout
counted_end false reasons.Memory = ends.Memory
counted_end false reasons.Drained = ends.Drained

-- a response counts as accepted in `rbacd_responses_total`
abbrev pub is_accepted : ResponseOutcome → Bool
is_accepted (outcomes.Accepted given) = true
is_accepted (outcomes.Refused refused) = false
