-- The output of `judge --explain`: the policies that were tried, each with why it matches or does not. It is in words
-- or in JSON objects (RFC 8259), whose members are in ascending order of their names.
use Rattle.std.specs.Prelude.{◌≡◌, ⊤, ℕ, ◌==◌, if◌then◌else◌, List, [], ◌∷◌, ◌++◌, Option, Some, None, codes, map, string_bytes}
use Rattle.std.specs.FinMap.{entries}
use Rattle.std.specs.Fmt.{decimal}
use Rattle.std.specs.List.{flat_map}
use Rattle.std.specs.Str.{chars}
use Rattle.attributes.specs.Limits.{largest}
use Rattle.attributes.specs.Request.{RequestValue}
use Rattle.cel_tree.specs.Checked.{CelChecked}
use Rattle.cel_value.specs.Names.{error_name}
use Rattle.rbac_policy.specs.Filter.{Filter}
use Rattle.rbac_policy.specs.Trials.{AreTrials, HasReason, Means, TakesSteps}
use Rattle.rbac_policy.specs.declared.reason.Reason.{Reason}
use Rattle.rbac_policy.specs.declared.reason.Reason.TheVariants.{NoPermission, NoPrincipal, Matches, ConditionFalse, ConditionFails, ConditionTrue}
use Rattle.rbac_policy.specs.declared.trials.Trial.{Trial}
use Rattle.serde_json.specs.Data.{Data, number, unsigned, string, array, object, Members, member, no_members}
use Rattle.serde_json.specs.View.{items_of}
use Rattle.stack_machine.specs.declared.error.RunError.{RunError}
use Rattle.stack_machine.specs.declared.error.RunError.TheVariants as errors
use Rattle.program_texts.specs.Shown.{shown_character}
use Rattle.rbac_judge.specs.declared.explain.Explanation.{Explanation}
use Rattle.rbac_judge.specs.declared.explain.Explanation.TheVariants as explanations
use Rattle.rbac_judge.specs.declared.explain.OwnTrial.{OwnTrial}

-- a policy that was tried: its number, its name, and why it matches or does not
pub record TrialValue : Type 0 where
  pub number : ℕ
  pub name : List ℕ
  pub reason : Reason

-- the trial that a `Trial` means, whose name is borrowed
abbrev pub trial_view : Trial → TrialValue
trial_view trial = record { number = trial.number; name = trial.name.now; reason = trial.reason }

-- the trial that an `OwnTrial` means, which owns its name
abbrev pub own_trial_view : OwnTrial → TrialValue
own_trial_view trial =
    record { number = trial.number; name = string_bytes trial.name; reason = trial.reason }

-- a trial as it is reported, with the texts of its causes. They are the leaves of its rules that decide, and the part of
-- its condition that an error is from
pub record ReportedTrial : Type 0 where
  pub trial : TrialValue
  pub causes : List (List ℕ)

-- what is reported of a trial
abbrev pub reported_trial_view : OwnTrial → ReportedTrial
reported_trial_view trial =
    record { trial = own_trial_view trial; causes = map string_bytes trial.causes.items }

-- the trials of an explanation, if it has trials
abbrev pub reported_trials : Explanation → Option (List ReportedTrial)
reported_trials explanations.Absent = None
reported_trials (explanations.Trials trials) = Some (map reported_trial_view trials.items)
reported_trials (explanations.Unavailable cause) = None

-- these are the policies that are tried for the request, in order
abbrev pub AreTried : RequestValue → Filter CelChecked → List TrialValue → Type 0
AreTried request filter reported = (trials : List Trial)
    × AreTrials (HasReason (Means request) (TakesSteps largest request) request) 0
    (entries filter.policies) trials
    × (reported ≡ map trial_view trials)

-- the explanation is right: its trials are those of the request. Trials that were asked for are absent only if memory
-- ran out
abbrev pub Explains : RequestValue → Filter CelChecked → Explanation → Type 0
Explains request filter explanations.Absent = ⊤
Explains request filter (explanations.Trials trials) =
    AreTried request filter (map own_trial_view trials.items)
Explains request filter (explanations.Unavailable cause) = cause ≡ errors.Memory

-- the explanation has trials, or the cause for which it has none
abbrev pub IsGiven : Explanation → Type 0
IsGiven explanations.Absent = ⊥
IsGiven (explanations.Trials trials) = ⊤
IsGiven (explanations.Unavailable cause) = ⊤

-- a character as it is written between quotes: as `\"`, `\\`, `\0`, `\t`, `\n`, `\r`, `\u{1b}` or itself
abbrev pub escaped : ℕ → List ℕ
escaped c =
    if c == 34 then 92 ∷ 34 ∷ []
    else (if c == 92 then 92 ∷ 92 ∷ []
    else (if c == 0 then 92 ∷ 48 ∷ []
    else (if c == 9 then 92 ∷ 116 ∷ []
    else (if c == 10 then 92 ∷ 110 ∷ []
    else (if c == 13 then 92 ∷ 114 ∷ []
    else shown_character c)))))

-- the name in quotes
abbrev pub quoted : List ℕ → List ℕ
quoted name = 34 ∷ (flat_map escaped (chars name) ++ 34 ∷ [])

-- the reason in words
abbrev pub reason_text : Reason → List ℕ
reason_text NoPermission = codes "permission"
reason_text NoPrincipal = codes "principal"
reason_text Matches = codes "match"
reason_text ConditionFalse = codes "condition false"
reason_text (ConditionFails e) = codes "condition error " ++ error_name e
reason_text (ConditionTrue steps bound) =
    codes "condition true steps " ++ decimal steps ++ codes " bound " ++ decimal bound

-- the line of a trial, such as `0 "p": condition false`
abbrev pub trial_line : TrialValue → List ℕ
trial_line trial = decimal trial.number ++ 32 ∷ (quoted trial.name ++ codes ": " ++ reason_text trial.reason ++ 10 ∷ [])

-- the line of a cause
abbrev pub cause_line : List ℕ → List ℕ
cause_line cause = 32 ∷ 32 ∷ (cause ++ 10 ∷ [])

-- the line of a trial, followed by those of its causes
abbrev pub trial_lines : ReportedTrial → List ℕ
trial_lines reported = trial_line reported.trial ++ flat_map cause_line reported.causes

-- a line, followed by the lines of the trials, if there are any to show
abbrev pub with_trials : List ℕ → Option (List ReportedTrial) → List ℕ
with_trials line None = line
with_trials line (Some reported) = line ++ flat_map trial_lines reported

-- the members `name`, `number` and `reason` of a trial's object, with this word as the reason, and then the rest
abbrev pub trial_members : TrialValue → List ℕ → Members → Members
trial_members trial word rest = member (codes "name") (string trial.name)
    (member (codes "number") (number (unsigned trial.number))
    (member (codes "reason") (string word) rest))

-- the array of the texts of causes
abbrev pub causes_json : List (List ℕ) → Data
causes_json causes = array (items_of (map string causes))

-- the object of a trial that has this reason
abbrev pub reason_json : ReportedTrial → Reason → Data
reason_json reported (ConditionFails e) = object (member (codes "causes") (causes_json reported.causes)
    (member (codes "error") (string (error_name e))
    (trial_members reported.trial (codes "condition error") no_members)))
reason_json reported (ConditionTrue steps bound) =
    object (member (codes "bound") (number (unsigned bound))
    (member (codes "causes") (causes_json reported.causes)
    (trial_members reported.trial (codes "condition true")
    (member (codes "steps") (number (unsigned steps)) no_members))))
reason_json reported reason = object (member (codes "causes") (causes_json reported.causes)
    (trial_members reported.trial (reason_text reason) no_members))

-- the object of a trial
abbrev pub trial_json : ReportedTrial → Data
trial_json reported = reason_json reported reported.trial.reason

-- the member `trials`, if there are trials to show, and then the rest
abbrev pub put_trials : Option (List ReportedTrial) → Members → Members
put_trials None rest = rest
put_trials (Some reported) rest = member (codes "trials") (array (items_of (map trial_json reported))) rest

-- the text on standard error if the trials cannot be shown
abbrev pub unavailable_text : RunError → List ℕ
unavailable_text errors.Memory = codes "cannot explain" ++ 10 ∷ (codes "  memory ran out" ++ 10 ∷ [])
unavailable_text errors.OutOfSteps =
    codes "cannot explain" ++ 10 ∷ (codes "  a condition takes more steps than it may" ++ 10 ∷ [])
