use Rattle.cel_compile.proofs.Unstuck.{code_never_stuck}
use Rattle.cel_compile.proofs.laws.compiled_code_is_never_stuck.Goals as goal

pub returns : goal.returns
returns c = code_never_stuck
