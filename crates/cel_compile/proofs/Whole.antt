-- The promise of compiled code, from the run of the expression.
use Rattle.std.proofs.Common.{◌≡◌, ◌+◌, List, [], ◌∷◌, length, None, refl, subst, arith}
use Rattle.attributes.specs.Limits.{LimitsValue}
use Rattle.attributes.specs.Request.{IsRequest, RequestValue}
use Rattle.cel_types.specs.Elaborated.{TypedTree}
use Rattle.cel_types.specs.WellTyped.{IsWellTyped}
use Rattle.cel_types.proofs.WellTypedAnswers.{answer_typed}
use Rattle.machine_code.specs.Instructions.{Instruction}
use Rattle.machine_code.specs.Machine.{RunReaches, begins, start}
use Rattle.cel_compile.specs.Codes.{code_of}
use Rattle.cel_compile.specs.private.Extents.{extent}
use Rattle.cel_compile.specs.Sound.{IsSound, RunsTo}
use Rattle.cel_compile.proofs.Bounds.{Bounds, bounds_of}
use Rattle.cel_compile.proofs.Goes.{reached, state}
use Rattle.cel_compile.proofs.Placing.{extent_is, has_all, placed}
use Rattle.cel_compile.proofs.Sound.{runs}

run_of : (e : TypedTree) (request : RequestValue) (limits : LimitsValue) → IsWellTyped [] e → IsRequest request → Bounds request limits
    → RunsTo (code_of 0 0 e) e request limits
run_of e request limits g valid bounds =
    let code = code_of 0 0 e in
    let x = answer_typed request valid e [] [] tt g in
    let end : length code ≡ 0 + extent e = let l = extent_is e 0 0 in omega arith in
    let stands = placed code e 0 0 (length code) end (has_all code []) in
    let way = runs code request limits valid bounds e 0 (length code) [] [] [] [] [] x.0 tt tt g stands x.1 in
    let y = way.by (λ l. None) tt in
    let last = state (length code) (x.0 ∷ []) y.0 [] in
    let from_start : 0 + y.1 ≡ y.1 = omega arith in record {
      answer = x.0;
      means = x.1;
      has_type = x.2;
      within = bounds.answer e [] [] [] x.0 g tt x.1;
      steps = y.1;
      ends = record {
        last = last;
        reaches = subst (λ n. RunReaches code request last n) from_start (reached code request start last 0 y.1 (begins start 0 refl refl) y.3);
        at_end = refl;
        one = refl;
      };
      bounded = y.4;
    }

pub code_is_sound : (e : TypedTree) (code : List Instruction) → IsWellTyped [] e → code ≡ code_of 0 0 e → IsSound code e
code_is_sound e code g is request limits valid within =
    rw is (run_of e request limits g valid (bounds_of request limits valid within))
