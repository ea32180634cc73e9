use Rattle.http_front.proofs.Spelling.{request_by_parts}
use Rattle.http_front.proofs.laws.parts_ask_for_themselves.Goals as goal

pub returns : goal.returns
returns c = request_by_parts
