use Rattle.std.proofs.Common.{arith, add-one}
use Rattle.stack_machine.proofs.Walking.{found_pair, pairs_past}
use Rattle.stack_machine.proofs.open_loop.OpenLoop.next_pair.Goals as goal

pub returns-then-self-len : goal.returns-then-self-len
returns-then-self-len c =
    pairs_past c.args.self.now.range c.args.self.now.taken (omega (arith, c.len.ensures))

pub returns : goal.returns
returns c =
    found_pair c.args.self.now.range c.args.self.now.taken _ c.in_ok-found.found
    c.in_ok-found.ensures (add-one c.args.self.now.taken)
