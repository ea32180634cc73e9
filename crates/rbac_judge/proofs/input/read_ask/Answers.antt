use Rattle.rbac_judge.proofs.input.read_ask.Goals as goal

pub returns-clause-found : goal.returns-clause-found
returns-clause-found g c = rw c.new-front.ensures at c.first_ask.ensures.found
