use Rattle.xds_wire.proofs.any.repeated_any.Goals as goal

pub returns-clause-fault : goal.returns-clause-fault
returns-clause-fault c =
    rw (c.deref.ensures, c.in_ok-parts.ensures) at c.read_each.ensures.fault
