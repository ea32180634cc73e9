use Rattle.rbac_match.proofs.HeaderMessages.{header_unique}
use Rattle.rbac_match.proofs.laws.header_unique.Goals as goal

pub returns : goal.returns
returns c = header_unique
