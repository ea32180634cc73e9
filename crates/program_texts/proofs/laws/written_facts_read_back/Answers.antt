use Rattle.program_texts.proofs.WrittenFacts.{facts_read_back}
use Rattle.program_texts.proofs.laws.written_facts_read_back.Goals as goal

pub returns : goal.returns
returns c = facts_read_back
