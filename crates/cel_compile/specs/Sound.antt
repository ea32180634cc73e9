-- What compiled code promises: it evaluates to the expression's meaning, within its cost.
use Rattle.std.specs.Prelude.{◌≡◌, ℕ, ◌≤◌, List, [], Some}
use Rattle.attributes.specs.Limits.{InLimits, LimitsValue}
use Rattle.attributes.specs.Request.{IsRequest, RequestValue}
use Rattle.cel_value.specs.Types.{AnswerHasType}
use Rattle.cel_value.specs.Values.{CelAnswer}
use Rattle.cel_tree.specs.Checked.{CelChecked}
use Rattle.cel_types.specs.Elaborated.{TypedTree, kind}
use Rattle.cel_types.specs.Meaning.{eval}
use Rattle.cel_types.specs.TypedMeaning.{typed_answer}
use Rattle.cel_costs.specs.Costs.{cost_of, size_of}
use Rattle.cel_costs.specs.Sizes.{Within}
use Rattle.machine_code.specs.Instructions.{Instruction}
use Rattle.machine_code.specs.Machine.{Ends}

-- the code's run on a request ends with the expression's answer, of the expression's type and within its
-- size. The steps are at most the expression's cost by the limits
pub record RunsTo (code : List Instruction) (e : TypedTree) (request : RequestValue) (limits : LimitsValue) : Type 0 where
  pub answer : CelAnswer
  pub means : typed_answer e request [] ≡ Some answer
  pub has_type : AnswerHasType answer (kind e)
  pub within : Within answer (size_of e limits [])
  pub steps : ℕ
  pub ends : Ends code request answer steps
  pub bounded : steps ≤ cost_of e limits []

-- the code does so on each request within the limits
abbrev pub IsSound : List Instruction → TypedTree → Type 0
IsSound code e = (request : RequestValue) (limits : LimitsValue) → IsRequest request
    → InLimits request limits → RunsTo code e request limits

-- the same for the checked expression that the code was made from: the run ends with the expression's meaning
pub record RunsToMeaning (code : List Instruction) (c : CelChecked) (e : TypedTree) (request : RequestValue)
    (limits : LimitsValue) : Type 0 where
  pub answer : CelAnswer
  pub means : eval c.tree request [] ≡ Some answer
  pub has_type : AnswerHasType answer (kind e)
  pub steps : ℕ
  pub ends : Ends code request answer steps
  pub bounded : steps ≤ cost_of e limits []
