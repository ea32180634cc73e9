use Rattle.program_texts.proofs.OneFacts.{one_facts}
use Rattle.program_texts.proofs.laws.facts_unique.Goals as goal

pub returns : goal.returns
returns c = one_facts
