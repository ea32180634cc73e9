-- By the service that it is.
use Rattle.serve_core.proofs.served.ServedServiceConn.take.Goals as goal

pub returns-in-AsSent-clause-turns : goal.returns-in-AsSent-clause-turns
returns-in-AsSent-clause-turns c = rw c.in-AsSent.is c.take.ensures.turns

pub returns-in-AsSent-clause-setup : goal.returns-in-AsSent-clause-setup
returns-in-AsSent-clause-setup c = rw c.in-AsSent.is c.take.ensures.setup

pub returns-in-Mapped-clause-turns : goal.returns-in-Mapped-clause-turns
returns-in-Mapped-clause-turns c = rw c.in-Mapped.is c.take-in-Mapped.ensures.turns

pub returns-in-Mapped-clause-setup : goal.returns-in-Mapped-clause-setup
returns-in-Mapped-clause-setup c = rw c.in-Mapped.is c.take-in-Mapped.ensures.setup
