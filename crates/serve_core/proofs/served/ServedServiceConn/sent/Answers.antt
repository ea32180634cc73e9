-- By the service that it is.
use Rattle.serve_core.proofs.served.ServedServiceConn.sent.Goals as goal

pub sent-requires : goal.sent-requires
sent-requires c = rw c.in-AsSent.is at c.requires

pub sent-requires-in-Mapped : goal.sent-requires-in-Mapped
sent-requires-in-Mapped c = rw c.in-Mapped.is at c.requires

pub returns-in-AsSent-clause-turns : goal.returns-in-AsSent-clause-turns
returns-in-AsSent-clause-turns c = rw c.in-AsSent.is c.sent.ensures.turns

pub returns-in-AsSent-clause-setup : goal.returns-in-AsSent-clause-setup
returns-in-AsSent-clause-setup c = rw c.in-AsSent.is c.sent.ensures.setup

pub returns-in-Mapped-clause-turns : goal.returns-in-Mapped-clause-turns
returns-in-Mapped-clause-turns c = rw c.in-Mapped.is c.sent-in-Mapped.ensures.turns

pub returns-in-Mapped-clause-setup : goal.returns-in-Mapped-clause-setup
returns-in-Mapped-clause-setup c = rw c.in-Mapped.is c.sent-in-Mapped.ensures.setup
