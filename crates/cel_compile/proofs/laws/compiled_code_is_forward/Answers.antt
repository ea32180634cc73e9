use Rattle.cel_compile.proofs.Forwards.{code_is_forward, elaborated_code_is_forward}
use Rattle.cel_compile.proofs.laws.compiled_code_is_forward.Goals as goal

pub returns-clause-typed : goal.returns-clause-typed
returns-clause-typed c = code_is_forward

pub returns-clause-checked : goal.returns-clause-checked
returns-clause-checked c = elaborated_code_is_forward
