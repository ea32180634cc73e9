use Rattle.check_request.proofs.Lists.{last_at}
use Rattle.check_request.proofs.lines.last_payload.Goals as goal

pub returns-in-Some : goal.returns-in-Some
returns-in-Some c = last_at c.args.parts.now c.in-Some.part.now c.in-Some.ensures.value
