-- A place that there is, or none.
use Rattle.std.proofs.Common.{arith}
use Rattle.serve_core.proofs.FrontSteps.{at_within, none_past, set_past}
use Rattle.serve_core.proofs.fronts.put.Goals as goal

pub returns-then-k-len-clause-before : goal.returns-then-k-len-clause-before
returns-then-k-len-clause-before c = none_past c.args.connections.now.items c.args.k (omega (arith, c.if-k-len.true, c.len.ensures))

pub returns-then-k-len-clause-after : goal.returns-then-k-len-clause-after
returns-then-k-len-clause-after c = set_past c.args.connections.now.items c.args.k c.args.connection (omega (arith, c.if-k-len.true, c.len.ensures))

pub returns-clause-before : goal.returns-clause-before
returns-clause-before c = at_within c.args.connections.now.items c.args.k c.put_within.result c.put_within.ensures.before
