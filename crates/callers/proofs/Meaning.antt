-- The run of a condition's code ends with what the condition means.
use Rattle.std.proofs.Common.{◌≡◌, ◌↔◌, Bool, true, List, [], ℕ, Option, Some, ap, sym, ◌∙◌}
use Rattle.attributes.specs.Limits.{InLimits, LimitsValue}
use Rattle.attributes.specs.Request.{IsRequest, RequestValue}
use Rattle.callers.specs.Conditions.{IsCodeOf}
use Rattle.cel_compile.proofs.Meaning.{code_means}
use Rattle.cel_read.proofs.GoodConstantLaws.{expr_good}
use Rattle.cel_tree.specs.Checked.{CelChecked}
use Rattle.cel_tree.specs.Message.{IsChecked, checked_parts}
use Rattle.cel_types.specs.Meaning.{eval}
use Rattle.cel_value.specs.Values.{CelAnswer}
use Rattle.machine_code.specs.Instructions.{Instruction}
use Rattle.machine_code.specs.Machine.{Ends}
use Rattle.machine_code.proofs.Chains.{one_end_lem}

-- if the run of the code ended with this answer, the condition means it
pub run_means : (code : List Instruction) (r : RequestValue) (limits : LimitsValue) (parts : List (List ℕ))
    (c : CelChecked) (a : CelAnswer) (steps : ℕ) → IsRequest r → InLimits r limits → IsChecked parts c
    → IsCodeOf c code → Ends code r a steps → eval c.tree r [] ≡ Some a
run_means code r limits parts c a steps valid inside checked (e, elaborated, is) ends =
    let run = code_means c e (expr_good (checked_parts parts) c checked) elaborated r limits valid inside in
    let same : a ≡ run.answer = (one_end_lem code r a run.answer steps run.steps ends (rw is run.ends)).0 in
    rw same run.means

-- a test on an answer is one on what is meant
pub is_meant : (met : Bool) (a b : CelAnswer) (meant : Option CelAnswer) → meant ≡ Some a
    → (met ≡ true) ↔ (a ≡ b) → (met ≡ true) ↔ (meant ≡ Some b)
is_meant met a b meant is same = (
  λ m. is ∙ ap Some (same.0 m),
  λ eq.
      let equal : Some a ≡ Some b = sym is ∙ eq in
      let inside : a ≡ b = cc in
      same.1 inside,
)
