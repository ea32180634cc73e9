-- The text of an outcome, and its exit status.
use Rattle.std.specs.Prelude.{ℕ, List, [], ◌∷◌, ◌++◌, if◌then◌else◌, Option, Some, None, codes, option_map, string_bytes}
use Rattle.std.specs.Fmt.{decimal}
use Rattle.http_front.specs.Head.{fault_text}
use Rattle.proto_wire.specs.Refusal as refusal
use Rattle.proto_wire.specs.declared.refusal.Refusal.{Refusal}
use Rattle.serde_json.specs.Written.{compact_text}
use Rattle.rbac_judge.specs.Explain.{reported_trials, with_trials}
use Rattle.rbac_judge.specs.Json.{json_of, why_view}
use Rattle.rbac_judge.specs.declared.outcome.Outcome.{Outcome}
use Rattle.rbac_judge.specs.declared.outcome.Outcome.TheVariants as outcomes
use Rattle.rbac_judge.specs.declared.report.Report.{Report}

-- the number of the policy that matched, or `-`
abbrev pub matched_text : Option ℕ → List ℕ
matched_text (Some number) = decimal number
matched_text None = codes "-"

-- the outcome in words
abbrev pub text_of : Outcome → List ℕ
text_of (outcomes.Admitted policies bound) =
    codes "admitted: policies " ++ decimal policies ++ codes " bound " ++ decimal bound
text_of (outcomes.Allowed matched) = codes "allow " ++ matched_text matched
text_of (outcomes.Denied matched) = codes "deny " ++ matched_text matched
text_of outcomes.OutOfSteps = codes "deny steps"
text_of (outcomes.Refused reason) = codes "refused: " ++ refusal.text_of reason
text_of (outcomes.Fault fault) = codes "head: " ++ fault_text fault
text_of outcomes.Memory = codes "memory"

-- the outcome's line: its text with a line feed
abbrev pub line_of : Outcome → List ℕ
line_of outcome = text_of outcome ++ 10 ∷ []

-- the text that is printed for the report. It is one line with a JSON object, or the outcome's line, followed by those
-- of the trials, if there are any to show
abbrev pub printed_of : Report → List ℕ
printed_of report =
    if report.json
    then compact_text (json_of (option_map string_bytes report.name) (reported_trials report.explanation)
    (why_view report.why) report.outcome) ++ 10 ∷ []
    else with_trials (line_of report.outcome) (reported_trials report.explanation)

-- the exit status of an outcome
abbrev pub status_of : Outcome → ℕ
status_of (outcomes.Admitted policies bound) = 0
status_of (outcomes.Allowed matched) = 0
status_of (outcomes.Denied matched) = 3
status_of outcomes.OutOfSteps = 3
status_of (outcomes.Refused Refusal.Memory) = 5
status_of (outcomes.Refused _) = 1
status_of (outcomes.Fault fault) = 4
status_of outcomes.Memory = 5
