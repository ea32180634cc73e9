use Rattle.http_front.proofs.Spelling.{parts_or_fault}
use Rattle.http_front.proofs.laws.parts_ask_fault_disjoint.Goals as goal

pub returns : goal.returns
returns c = parts_or_fault
