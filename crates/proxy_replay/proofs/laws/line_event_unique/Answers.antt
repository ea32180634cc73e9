use Rattle.proxy_replay.proofs.LineLaws.{one_line}
use Rattle.proxy_replay.proofs.laws.line_event_unique.Goals as goal

pub returns : goal.returns
returns c = λ line a b h k. one_line line a b h.1 k.1
