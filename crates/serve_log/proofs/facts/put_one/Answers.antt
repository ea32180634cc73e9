use Rattle.serve_log.proofs.facts.put_one.Goals as goal

pub returns : goal.returns
returns c = rw (c.name.ensures, c.in_ok-value.ensures) at c.put_value.ensures
