use Rattle.std.proofs.Common.{◌∙◌}
use Rattle.machine_code.proofs.code.Code.op.Goals as goal

pub returns : goal.returns
returns c = c.word.ensures.at ∙ c.op.ensures
