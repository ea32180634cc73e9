-- A value with a fault means no facts.
use Rattle.program_texts.proofs.FactFaults.{means_none}
use Rattle.program_texts.proofs.facts.conn_of.Goals as goal

pub returns-in-Err-clause-fault : goal.returns-in-Err-clause-fault
returns-in-Err-clause-fault c = λ bad f are. means_none _ _ f (rw c.in-Err.is at c.in_ok-conn.ensures.fault) are
