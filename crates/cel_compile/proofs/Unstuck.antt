-- No run of the code of a well typed expression is ever stuck, since one pass finds a table of it.
use Rattle.std.proofs.Common.{[]}
use Rattle.attributes.specs.Request.{IsRequest, RequestValue}
use Rattle.cel_types.specs.Elaborated.{TypedTree, kind}
use Rattle.cel_types.specs.WellTyped.{IsWellTyped}
use Rattle.machine_code.specs.Machine.{NeverStuck}
use Rattle.machine_code.proofs.Sound.{never_stuck_lem}
use Rattle.cel_compile.specs.Codes.{code_of}
use Rattle.cel_compile.proofs.Forwards.{code_is_forward}

pub code_never_stuck : (e : TypedTree) (request : RequestValue) → IsWellTyped [] e → IsRequest request
    → NeverStuck (code_of 0 0 e) request
code_never_stuck e request g sound =
    let found = code_is_forward e g in
    never_stuck_lem (code_of 0 0 e) (kind e) request (found.0, found.1.typed) sound
