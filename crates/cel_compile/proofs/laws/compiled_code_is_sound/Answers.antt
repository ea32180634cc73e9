use Rattle.cel_compile.proofs.Whole.{code_is_sound}
use Rattle.cel_compile.proofs.laws.compiled_code_is_sound.Goals as goal

pub returns : goal.returns
returns c = code_is_sound
