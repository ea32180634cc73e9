use Rattle.http_front.proofs.Spelling.{one_by_parts}
use Rattle.http_front.proofs.laws.parts_ask_unique.Goals as goal

pub returns : goal.returns
returns c = one_by_parts
