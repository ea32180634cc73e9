use Rattle.std.proofs.Common.{◌≡◌, ◌+◌, ◌<◌, ◌^◌, [], ◌∷◌, arith}
use Rattle.cel_costs.specs.Costs.{charge_at}
use Rattle.cost_bound.specs.private.Measuring.{call_part}
use Rattle.cost_bound.specs.private.SizeView.{size_view}
use Rattle.cost_bound.proofs.Calls.{part_covers}
use Rattle.cost_bound.proofs.Capped.{paid}
use Rattle.cost_bound.proofs.measured.call_of_two.Goals as goal

pub returns-clause-found : goal.returns-clause-found
returns-clause-found c = λ types.
    let sizes = size_view c.args.first.now ∷ size_view c.args.second.now ∷ [] in
    let left = c.in_ok-left.ensures.found in
    let fits = c.pay.ensures.fits in
    let rest : c.args.left.steps ≡ 1 + call_part c.args.overload types sizes + c.in_ok-left.left.steps =
    paid _ _ _ _ fits (c.pair_part.ensures types) left.0 in
    let covered = part_covers c.args.overload types sizes in
    let small : charge_at c.args.overload types sizes < 2 ^ 64 = omega (arith, covered, rest, fits) in
    (c.in_ok-size.ensures types small, rest, omega (arith, left.1))
