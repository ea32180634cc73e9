-- The effects of single steps of a batch.
use Rattle.std.specs.Prelude.{◌≡◌, ◌⊎◌, ◌↔◌, ◌<◌, ◌≤◌, ◌++◌, ◌∷◌, [], ⊤, true, ℕ, Bool, IfSome, IsTrue, List, Option, Some, None, option_map, string_bytes}
use Rattle.attributes.specs.Conn.{Facts}
use Rattle.attributes.specs.Limits.{FactsInLimits, largest}
use Rattle.rbac_policy.specs.Condition.{Program}
use Rattle.rbac_policy.specs.Filter.{Filter}
use Rattle.serde_json.specs.Data.{Data}
use Rattle.serde_json.specs.Read.{read}
use Rattle.serde_json.specs.Written.{compact_text}
use Rattle.rbac_judge.specs.Batches.{Answer, IsAnswer, IsHead, IsTooLong, OfPolicies, answer_text, bad_json}
use Rattle.rbac_judge.specs.Explain.{IsGiven}
use Rattle.rbac_judge.specs.Judging.{IsDecision}
use Rattle.rbac_judge.specs.Outcome.{printed_of}
use Rattle.program_texts.specs.Output.{BreaksOff}
use Rattle.program_texts.specs.InputLines.{ReadsLine}
use Rattle.rbac_judge.specs.private.Judged.{IsNameOf, IsOutcomeUnder}
use Rattle.rbac_judge.specs.declared.head_lines.HeadLine.{HeadLine}
use Rattle.rbac_judge.specs.declared.head_lines.HeadLine.TheVariants.{TooLong, Whole}
use Rattle.rbac_judge.specs.declared.report.Report.{Report}
use Rattle.program_texts.specs.declared.replay_fault.ReplayFault.{ReplayFault}
use Rattle.program_texts.specs.declared.replay_fault.ReplayFault.TheVariants as replay_faults

-- the bytes of a line of the input
abbrev pub IsLineOf : HeadLine → List ℕ → Type 0
IsLineOf (Whole bytes) line = (line ≡ bytes.items) × (¬ IsTooLong line)
IsLineOf TooLong line = IsTooLong line

-- the line with so many bytes, of which these are kept if they are not too many
abbrev pub IsHeadLineOf : List ℕ → ℕ → Option HeadLine → Type 0
IsHeadLineOf kept count None = count ≡ 0
IsHeadLineOf kept count (Some (Whole bytes)) = (bytes.items ≡ kept) × (0 < count) × (count ≤ 1048576)
IsHeadLineOf kept count (Some TooLong) = 1048576 < count

-- a line was read; or there is none, and the input is at its end
abbrev pub IsSomeHeadLine : Option HeadLine → Option (List ℕ) → Option (List ℕ) → Type 0
IsSomeHeadLine (Some found) input input_new = (line : List ℕ) × IsLineOf found line × ReadsLine input line input_new
IsSomeHeadLine None input input_new = IfSome input (λ bytes. (bytes ≡ []) × (input_new ≡ Some []))

-- the output failed, and took a proper beginning of the text
abbrev pub BreaksOutput : Option (List ℕ) → Option (List ℕ) → List ℕ → ReplayFault → Type 0
BreaksOutput out out_new text (replay_faults.Output cause) = BreaksOff out out_new text
BreaksOutput out out_new text _ = ⊥

-- the text, read as JSON, is this value; there is no text if there is no value
abbrev pub IsIdText : Option Data → Option (List ℕ) → Type 0
IsIdText (Some value) (Some text) = read text ≡ Some value
IsIdText None None = ⊤
IsIdText (Some value) None = ⊥
IsIdText None (Some text) = ⊥

-- the value has no head, or its facts are not within the limits
abbrev pub LacksHead : Facts → Data → Type 0
LacksHead absent d = ((head : List ℕ) (facts : Facts) → ¬ IsHead absent d head facts)
    ⊎ ((head : List ℕ) × (facts : Facts) × IsHead absent d head facts × ¬ FactsInLimits facts largest)

-- parameters: a filter, and whether verdicts are explained
module _ (enforced : Filter Program) (explain : Bool) where
  -- the report is that of the filter on this head, as JSON
  pub record IsReportOf (head : List ℕ) (facts : Facts) (report : Report) : Type 0 where
    pub json : report.json ≡ true
    pub under : IsOutcomeUnder enforced facts head report.explanation report.outcome
    pub named : IsNameOf enforced report.outcome (option_map string_bytes report.name)
    pub given : IsGiven report.explanation ↔ (IsTrue explain × IsDecision report.outcome)

  -- the value has a head, and the report is that of the filter on it
  pub record IsReportAt (absent : Facts) (d : Data) (report : Report) : Type 0 where
    pub head : List ℕ
    pub facts : Facts
    pub reported : IsHead absent d head facts
    pub fits : FactsInLimits facts largest
    pub is : IsReportOf head facts report

  -- the text is the report on the value's head, or the number of a line that has none
  abbrev pub IsPlainAnswer : Facts → Data → ℕ → List ℕ → Type 0
  IsPlainAnswer absent d n text = ((report : Report) × IsReportAt absent d report × (text ≡ printed_of report))
      ⊎ (LacksHead absent d × ((cause : List ℕ) × (text ≡ compact_text (bad_json n cause) ++ 10 ∷ [])))

  -- the text is the answer to the line of this number, under each policy that is admitted as the filter
  pub record IsAnsweredBy (absent : Facts) (n : ℕ) (line text : List ℕ) : Type 0 where
    pub answer : Answer
    pub same : text ≡ answer_text answer
    pub right : OfPolicies enforced (λ policy budget. IsAnswer policy budget absent explain n line answer)
