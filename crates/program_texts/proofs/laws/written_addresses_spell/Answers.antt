use Rattle.program_texts.proofs.WrittenAddresses.{spells_ip}
use Rattle.program_texts.proofs.laws.written_addresses_spell.Goals as goal

pub returns : goal.returns
returns c = spells_ip
