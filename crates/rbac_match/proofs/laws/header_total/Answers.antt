use Rattle.rbac_match.proofs.HeaderMessages.{header_total}
use Rattle.rbac_match.proofs.laws.header_total.Goals as goal

pub returns : goal.returns
returns c = header_total
