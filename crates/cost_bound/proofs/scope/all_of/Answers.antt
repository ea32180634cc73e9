use Rattle.std.proofs.Common.{[]}
use Rattle.cost_bound.proofs.Locals.{sizes_both}
use Rattle.cost_bound.proofs.scope.all_of.Goals as goal

pub returns : goal.returns
returns c =
    rw (c.in_ok-extend_from_slice-2.ensures.items, c.in_ok-extend_from_slice.ensures.items, c.in_ok-all.ensures.items)
    (sizes_both [] c.args.at.now.around.locals.now c.args.at.now.inner.now)
