use Rattle.http_front.proofs.Spelling.{parts_request}
use Rattle.http_front.proofs.laws.parts_ask_for_requests.Goals as goal

pub returns : goal.returns
returns c = parts_request
