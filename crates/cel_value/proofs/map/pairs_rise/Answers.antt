use Rattle.std.proofs.Common.{◌-◌, ◌∙◌, arith}
use Rattle.cel_value.proofs.Walking.{pair_rises}
use Rattle.cel_value.proofs.map.pairs_rise.Goals as goal

pub returns : goal.returns
returns c =
    pair_rises c.args.pairs.now (c.loop-i.i - 1) (omega
    (arith, c.loop-i-test.false, c.loop-i.invariant.some))
    ∙ c.loop-i.invariant.same
