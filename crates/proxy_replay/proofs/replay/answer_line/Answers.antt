use Rattle.std.proofs.Common.{refl}
use Rattle.proxy_replay.proofs.replay.answer_line.Goals as goal

pub returns-in-Err-BadLine-clause-fault : goal.returns-in-Err-BadLine-clause-fault
returns-in-Err-BadLine-clause-fault g c =
    (refl, refl, c.in-Err-BadLine.ensures.fault c.in-Err-BadLine.field-0-is)
