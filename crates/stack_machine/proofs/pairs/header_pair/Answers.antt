use Rattle.std.proofs.Common.{ap}
use Rattle.std.specs.Option.{option_map}
use Rattle.stack_machine.specs.private.Pairs.{pair_answers}
use Rattle.stack_machine.proofs.Headers.{header_pair_at}
use Rattle.stack_machine.proofs.pairs.header_pair.Goals as goal

pub returns-in-Some : goal.returns-in-Some
returns-in-Some c =
    let there = header_pair_at c.args.headers.now c.args.index c.get.result c.get.ensures in
    ap (option_map pair_answers) (rw c.in-Some.is at there)

pub returns-in-None : goal.returns-in-None
returns-in-None c =
    let there = header_pair_at c.args.headers.now c.args.index c.get.result c.get.ensures in
    ap (option_map pair_answers) (rw c.in-None.is at there)
