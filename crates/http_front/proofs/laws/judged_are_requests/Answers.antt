use Rattle.http_front.proofs.Requests.{judge_is_request}
use Rattle.http_front.proofs.laws.judged_are_requests.Goals as goal

pub returns : goal.returns
returns c = judge_is_request
