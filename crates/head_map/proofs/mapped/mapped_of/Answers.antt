use Rattle.head_map.specs.Mapped.{silent}
use Rattle.head_map.proofs.mapped.mapped_of.Goals as goal

pub returns-in-Err : goal.returns-in-Err
returns-in-Err c =
    let fault = rw c.in-Err.is at c.in_ok-put_all.ensures in
    silent (rw (c.deref-3.ensures.value, c.deref-4.ensures.value) at fault)
