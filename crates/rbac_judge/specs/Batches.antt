-- A batch: request heads as lines with JSON objects (RFC 8259 section 4), and the answer to each. The names are this
-- project's own.
use Rattle.cost_bound.specs.declared.budget.Budget.{Budget}
use Rattle.std.specs.Prelude.{◌≡◌, ◌⊎◌, ◌↔◌, ◌≢◌, ◌<◌, ◌++◌, ◌+◌, ⊤, ℕ, Bool, true, List, [], ◌∷◌, IfSome, IsTrue, IsUtf8, Option, Some, None, codes, drop, length, option_map, string_bytes}
use Rattle.std.specs.Io.KnownBytes.{Appends}
use Rattle.std.specs.IoError.{error_kind}
use Rattle.std.specs.List.{flat_map}
use Rattle.std.specs.declared.io.ErrorKind.{ErrorKind as IoKind}
use Rattle.attributes.specs.Conn.{Facts}
use Rattle.attributes.specs.Limits.{FactsInLimits, largest}
use Rattle.cel_tree.specs.Checked.{CelChecked}
use Rattle.rbac_policy.specs.Admission.{Admits}
use Rattle.rbac_policy.specs.Condition.{Program}
use Rattle.rbac_policy.specs.Filter.{Filter}
use Rattle.serde_json.specs.Data.{Data, number, unsigned, string, object, member, no_members}
use Rattle.serde_json.specs.Find.{get}
use Rattle.serde_json.specs.Read.{read}
use Rattle.serde_json.specs.Written.{compact_text}
use Rattle.rbac_judge.specs.Explain.{IsGiven}
use Rattle.program_texts.specs.Facts.{AreFacts}
use Rattle.rbac_judge.specs.Judging.{IsDecision, IsOutcomeOf}
use Rattle.program_texts.specs.Members.{HasOnly}
use Rattle.rbac_judge.specs.Outcome.{printed_of}
use Rattle.program_texts.specs.Output.{BreaksOff}
use Rattle.program_texts.specs.InputLines.{AreLines}
use Rattle.rbac_judge.specs.declared.outcome.Outcome.TheVariants as outcomes
use Rattle.rbac_judge.specs.declared.report.Report.{Report}
use Rattle.program_texts.specs.declared.replay_fault.ReplayFault.{ReplayFault}
use Rattle.program_texts.specs.declared.replay_fault.ReplayFault.TheVariants as faults

-- the line has more than 1 MiB, its line feed included
abbrev pub IsTooLong : List ℕ → Type 0
IsTooLong line = 1048576 < length line

-- the names of the members that the object of a line may have
abbrev pub head_names : List (List ℕ)
head_names = codes "head" ∷ codes "facts" ∷ codes "id" ∷ []

-- the value means these facts; if there is no value, the facts are `absent`
abbrev pub AreFactsOr : Facts → Option Data → Facts → Type 0
AreFactsOr absent None facts = facts ≡ absent
AreFactsOr absent (Some d) facts = AreFacts d facts

-- the value is an object with this head and these facts
pub record IsHead (absent : Facts) (d : Data) (head : List ℕ) (facts : Facts) : Type 0 where
  pub names : HasOnly head_names d
  pub text : get (codes "head") d ≡ Some (string head)
  pub conn : AreFactsOr absent (get (codes "facts") d) facts

-- the bytes are the JSON text of an object with this head and these facts
abbrev pub IsHeadText : Facts → List ℕ → List ℕ → Facts → Type 0
IsHeadText absent line head facts = IsUtf8 line × ((d : Data) × (read line ≡ Some d) × IsHead absent d head facts)

-- the line has no head, or its facts are not within the limits
abbrev pub HasNoHead : Facts → List ℕ → Type 0
HasNoHead absent line = ((head : List ℕ) (facts : Facts) → ¬ IsHeadText absent line head facts)
    ⊎ ((head : List ℕ) × (facts : Facts) × IsHeadText absent line head facts × ¬ FactsInLimits facts largest)

-- the text of the member `id` of the line's object, read as JSON, is that member's value. There is no text if the line
-- has no such member
abbrev pub IsIdOf : List ℕ → Option (List ℕ) → Type 0
IsIdOf line (Some text) = IsUtf8 line × ((d value : Data) × (read line ≡ Some d) × (get (codes "id") d ≡ Some value)
    × (read text ≡ Some value))
IsIdOf line None = (d : Data) → IsUtf8 line → read line ≡ Some d → get (codes "id") d ≡ None

-- the answer to a line: the report on its head; or the number of a line that has none, with the cause. Both have the
-- text of the line's id, if it has one
pub data Answer : Type 0 where
  judged : Option (List ℕ) → Report → Answer
  bad : Option (List ℕ) → ℕ → List ℕ → Answer

-- the object of a line that has no head
abbrev pub bad_json : ℕ → List ℕ → Data
bad_json n cause =
    object (member (codes "cause") (string cause) (member (codes "line") (number (unsigned n)) no_members))

-- the text of an object, with the id as its first member
abbrev pub with_id : Option (List ℕ) → List ℕ → List ℕ
with_id None text = text
with_id (Some id) text = codes "{\"id\":" ++ id ++ 44 ∷ drop 1 text

-- the line that is printed for an answer
abbrev pub answer_text : Answer → List ℕ
answer_text (judged id report) = with_id id (printed_of report)
answer_text (bad id n cause) = with_id id (compact_text (bad_json n cause) ++ 10 ∷ [])

-- the lines that are printed for answers, in order
abbrev pub answers_text : List Answer → List ℕ
answers_text = flat_map answer_text

-- what was printed of some answers when this fault ended a batch. All were printed if the input failed or memory ran out,
-- and not all if the output failed
abbrev pub LeavesAnswers : Option (List ℕ) → Option (List ℕ) → List ℕ → ReplayFault → Type 0
LeavesAnswers out out_new text (faults.Line n cause) = ⊥
LeavesAnswers out out_new text (faults.Input cause) =
    (error_kind cause ≢ IoKind.OutOfMemory) × Appends out out_new text
LeavesAnswers out out_new text (faults.Output cause) = BreaksOff out out_new text
LeavesAnswers out out_new text faults.Memory = Appends out out_new text

-- parameters: a policy, its budget, the facts of a line that has none, and whether verdicts are explained
module _ (policy : List ℕ) (budget : Budget) (absent : Facts) (explain : Bool) where
  -- the line has a head with facts within the limits, and the report is that of the policy, the head and its facts
  pub record IsReportOn (line : List ℕ) (report : Report) : Type 0 where
    pub head : List ℕ
    pub facts : Facts
    pub short : ¬ IsTooLong line
    pub reported : IsHeadText absent line head facts
    pub fits : FactsInLimits facts largest
    pub found : IsOutcomeOf policy budget facts head (option_map string_bytes report.name) report.explanation report.outcome
    pub given : IsGiven report.explanation ↔ (IsTrue explain × IsDecision report.outcome)

  -- the answer to the line of this number. It is the report on the line's head, as JSON, or that memory ran out. Or the
  -- line is too long, or has no head
  abbrev pub IsAnswer : ℕ → List ℕ → Answer → Type 0
  IsAnswer n line (judged id report) = (report.json ≡ true)
      × (((id ≡ None) × (report.outcome ≡ outcomes.Memory)) ⊎ (IsIdOf line id × IsReportOn line report))
  IsAnswer n line (bad id reported cause) = (reported ≡ n)
      × ((IsTooLong line × (id ≡ None)) ⊎ ((¬ IsTooLong line) × IsIdOf line id × HasNoHead absent line))

  -- the answers to the lines, one for each, in order; the first line has the number `n`
  abbrev pub AreAnswers : ℕ → List (List ℕ) → List Answer → Type 0
  AreAnswers n [] [] = ⊤
  AreAnswers n [] (answer ∷ answers) = ⊥
  AreAnswers n (line ∷ lines) [] = ⊥
  AreAnswers n (line ∷ lines) (answer ∷ answers) = IsAnswer n line answer × AreAnswers (n + 1) lines answers

  -- these lines of the input were read, and these are their answers
  pub record Answered (input : Option (List ℕ)) (lines : List (List ℕ)) (answers : List Answer)
      (input_new : Option (List ℕ)) : Type 0 where
    pub right : AreAnswers 1 lines answers
    pub taken : IfSome input (λ bytes. (left : List ℕ) × (input_new ≡ Some left) × AreLines bytes lines left)

  -- parameters: an input, and the bytes `out` that the output had before
  module _ (input out : Option (List ℕ)) where
    -- every line was read, the answers were printed, and the input is at its end
    pub record IsBatch (input_new out_new : Option (List ℕ)) : Type 0 where
      pub lines : List (List ℕ)
      pub answers : List Answer
      pub answered : Answered input lines answers input_new
      pub end : IfSome input (λ bytes. input_new ≡ Some [])
      pub printed : Appends out out_new (answers_text answers)

    -- some lines were read and have answers, and then this fault ended the batch
    pub record IsCutShort (fault : ReplayFault) (out_new : Option (List ℕ)) : Type 0 where
      pub lines : List (List ℕ)
      pub answers : List Answer
      pub between : Option (List ℕ)
      pub answered : Answered input lines answers between
      pub printed : LeavesAnswers out out_new (answers_text answers) fault

-- what holds of each policy that is admitted as this filter
abbrev pub OfPolicies : Filter Program → (List ℕ → Budget → Type 0) → Type 0
OfPolicies enforced P =
    (policy : List ℕ) (budget : Budget) (filter : Filter CelChecked) → Admits policy largest budget filter enforced → P policy budget
