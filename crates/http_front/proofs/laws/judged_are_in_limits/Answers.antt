use Rattle.http_front.proofs.Resuming.{judge_in_limits}
use Rattle.http_front.proofs.laws.judged_are_in_limits.Goals as goal

pub returns : goal.returns
returns c = judge_in_limits
