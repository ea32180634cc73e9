use Rattle.cel_compile.proofs.Meaning.{code_means}
use Rattle.cel_compile.proofs.laws.compiled_code_means_its_expression.Goals as goal

pub returns : goal.returns
returns c = code_means
