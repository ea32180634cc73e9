-- By what it gives.
use Rattle.std.proofs.Common.{None}
use Rattle.serve_core.specs.Cores.{core_view}
use Rattle.serve_core.proofs.Setups.{turn_keeps}
use Rattle.serve_core.proofs.steps.WorkerServiceServiceConn.sent.Goals as goal

pub returns-clause-turns : goal.returns-clause-turns
returns-clause-turns c = c.give.ensures.0

pub returns-clause-setup : goal.returns-clause-setup
returns-clause-setup c = turn_keeps (core_view c.args.self.now) (core_view c.give.new.self) _ None c.give.ensures
