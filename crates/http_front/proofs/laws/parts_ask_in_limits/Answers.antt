use Rattle.http_front.proofs.Spelling.{parts_in_limits}
use Rattle.http_front.proofs.laws.parts_ask_in_limits.Goals as goal

pub returns : goal.returns
returns c = parts_in_limits
