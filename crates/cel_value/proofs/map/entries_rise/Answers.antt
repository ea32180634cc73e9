use Rattle.std.proofs.Common.{◌-◌, ◌∙◌, arith}
use Rattle.cel_value.proofs.Walking.{entry_rises}
use Rattle.cel_value.proofs.map.entries_rise.Goals as goal

pub returns : goal.returns
returns c =
    entry_rises c.args.entries.now (c.loop-i.i - 1) (omega
    (arith, c.loop-i-test.false, c.loop-i.invariant.some))
    ∙ c.loop-i.invariant.same
