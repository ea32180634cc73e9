-- The table holds each fact once, and no two have one name.
use Rattle.program_texts.proofs.FactLemmas.{named_exactly}
use Rattle.program_texts.proofs.fact.Fact.named.Goals as goal

pub returns : goal.returns
returns c = named_exactly c.args.name.now c.find_named.result c.find_named.ensures
