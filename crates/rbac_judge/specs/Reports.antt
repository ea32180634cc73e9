-- Findings, their reports, and what is printed of a report if memory runs out. The names are this project's own.
use Rattle.std.specs.Prelude.{◌≡◌, ◌⊎◌, Bool, None}
use Rattle.stack_machine.specs.declared.error.RunError.TheVariants as errors
use Rattle.rbac_judge.specs.Json.{no_cause}
use Rattle.rbac_judge.specs.declared.explain.Explanation.{Explanation}
use Rattle.rbac_judge.specs.declared.explain.Explanation.TheVariants as explanations
use Rattle.rbac_judge.specs.declared.json.Why.{Why}
use Rattle.rbac_judge.specs.declared.judge.Finding.{Finding}
use Rattle.rbac_judge.specs.declared.outcome.Outcome.{Outcome}
use Rattle.rbac_judge.specs.declared.outcome.Outcome.TheVariants as outcomes
use Rattle.rbac_judge.specs.declared.report.Report.{Report}

-- a finding that has only an outcome
abbrev pub bare : Outcome → Finding
bare outcome = record { outcome = outcome; name = None; explanation = explanations.Absent }

-- the report of a finding
abbrev pub report_with : Bool → Finding → Report
report_with json finding = record {
  outcome = finding.outcome;
  name = finding.name;
  json = json;
  explanation = finding.explanation;
  why = no_cause;
}

-- the report, with why it is no verdict
abbrev pub with_why : Why → Report → Report
with_why why report = record report { why = why }

-- the report that memory ran out, printed in the same form
abbrev pub without_memory : Report → Report
without_memory report = record report {
  outcome = outcomes.Memory;
  explanation = explanations.Absent;
}

-- the explanation if no memory is left for its trials
abbrev pub without_trials : Explanation → Explanation
without_trials (explanations.Trials trials) = explanations.Unavailable errors.Memory
without_trials explanation = explanation

-- the report without its trials
abbrev pub unexplained : Report → Report
unexplained report = record report { explanation = without_trials report.explanation }

-- what is printed for a report: the report, the report without its trials, or the report that memory ran out
abbrev pub IsPrintedFor : Report → Report → Type 0
IsPrintedFor report printed =
    (printed ≡ report) ⊎ (printed ≡ unexplained report) ⊎ (printed ≡ without_memory report)
