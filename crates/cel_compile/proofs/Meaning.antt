-- The promise of compiled code in the words of the checked expression it was made from.
use Rattle.std.proofs.Common.{◌≡◌, [], refl}
use Rattle.attributes.specs.Limits.{InLimits, LimitsValue}
use Rattle.attributes.specs.Request.{IsRequest, RequestValue}
use Rattle.cel_tree.specs.Checked.{CelChecked}
use Rattle.cel_tree.specs.GoodConstants.{HasGoodConstants}
use Rattle.cel_types.specs.Elaborated.{IsElaborated, TypedTree}
use Rattle.cel_types.specs.Meaning.{eval}
use Rattle.cel_types.specs.Typing.{maps_of}
use Rattle.cel_types.specs.TypedMeaning.{typed_answer}
use Rattle.cel_types.specs.WellTyped.{IsWellTyped}
use Rattle.cel_types.proofs.MeansTheSame.{means_same}
use Rattle.cel_types.proofs.WellTypedElaborations.{elaborated_typed}
use Rattle.cel_compile.specs.Codes.{code_of}
use Rattle.cel_compile.specs.Sound.{RunsTo, RunsToMeaning}
use Rattle.cel_compile.proofs.Whole.{code_is_sound}

pub code_means : (c : CelChecked) (e : TypedTree) → HasGoodConstants c.tree → IsElaborated c e
    → (request : RequestValue) (limits : LimitsValue) → IsRequest request → InLimits request limits
    → RunsToMeaning (code_of 0 0 e) c e request limits
code_means c e good elaborated request limits valid within =
    let typed : IsWellTyped [] e = elaborated_typed (maps_of c) [] c.tree e good elaborated.elaborates in
    let run : RunsTo (code_of 0 0 e) e request limits =
    code_is_sound e (code_of 0 0 e) typed refl request limits valid within in
    let same : eval c.tree request [] ≡ typed_answer e request [] =
    means_same (maps_of c) request valid c.tree e [] tt good elaborated.elaborates in
    record {
      answer = run.answer;
      means = let means = run.means in cc;
      has_type = run.has_type;
      steps = run.steps;
      ends = run.ends;
      bounded = run.bounded;
    }
