use Rattle.std.proofs.Common.{inr}
use Rattle.cel_read.proofs.node_id.next_field.Goals as goal

pub returns-in-Err-clause-none : goal.returns-in-Err-clause-none
returns-in-Err-clause-none c = λ none.
    let bad = c.in-Err.ensures.fault in (bad.2, inr (bad.0, c.in-Err.field-0, bad.1))
