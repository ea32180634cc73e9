-- By the two cases.
use Rattle.serve_core.proofs.Clients.{unjudged_400}
use Rattle.serve_core.proofs.laws.an_unjudged_request_is_answered_400.Goals as goal

pub returns : goal.returns
returns c = unjudged_400
