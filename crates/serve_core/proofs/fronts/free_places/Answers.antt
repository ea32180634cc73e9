use Rattle.std.proofs.Common.{arith, length}
use Rattle.serve_core.proofs.FrontSteps.{none_more}
use Rattle.serve_core.proofs.fronts.free_places.Goals as goal

pub adding-preserved : goal.adding-preserved
adding-preserved c =
    let many = c.len.ensures in
    let one = c.in_ok-push.ensures.len in
    (omega arith, none_more c.adding.connections.items c.push.new.self.items c.in_ok-push.ensures.items c.adding.invariant.1)

pub returns-clause-length : goal.returns-clause-length
returns-clause-length c =
    let many = c.len.ensures in
    omega (arith, c.adding-test.false, c.adding.invariant.0)

pub returns-clause-none : goal.returns-clause-none
returns-clause-none c = c.adding.invariant.1
