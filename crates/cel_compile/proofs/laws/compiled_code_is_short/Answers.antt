use Rattle.cel_compile.proofs.Short.{fitting_code, short_code}
use Rattle.cel_compile.proofs.laws.compiled_code_is_short.Goals as goal

pub returns-clause-short : goal.returns-clause-short
returns-clause-short c = short_code

pub returns-clause-room : goal.returns-clause-room
returns-clause-room c = fitting_code
