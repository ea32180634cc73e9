use Rattle.std.proofs.Common.{inl, inr}
use Rattle.std.proofs.lemmas.Result.{err_from_is_err_and}
use Rattle.attributes.specs.Conn.{conn_view}
use Rattle.program_texts.proofs.FactFaults.{outside}
use Rattle.program_texts.proofs.facts.read_conn.Goals as goal

pub returns-in_err-read_facts-clause-fault : goal.returns-in_err-read_facts-clause-fault
returns-in_err-read_facts-clause-fault c =
    let p = err_from_is_err_and c.from_residual.result c.from_residual.ensures.1 in
    rw (p.1, p.2) (λ is. inl (c.in_err-read_facts.ensures.fault is))

pub returns-in-Err-clause-fault : goal.returns-in-Err-clause-fault
returns-in-Err-clause-fault c = λ is. inr (
  conn_view c.in_ok-read_facts.field-0,
  c.in_ok-read_facts.ensures.found,
  outside _ _ c.in-Err.ensures.fault,
)
