use Rattle.std.proofs.Common.{[]}
use Rattle.cel_types.specs.View.{typed_view}
use Rattle.cel_costs.proofs.Reached.{placed, placed_within}
use Rattle.cel_costs.proofs.Within.{answer_within}
use Rattle.cost_bound.proofs.bounding.bound.Goals as goal

pub returns-clause-within : goal.returns-clause-within
returns-clause-within c = λ r a g sound fits is.
    answer_within (typed_view c.args.typed.now) [] g r sound c.args.limits.now fits [] [] tt a is

pub returns-clause-parts : goal.returns-clause-parts
returns-clause-parts c = λ r p ls sizes g sound fits there.
    let at = placed r sound c.args.limits.now fits (typed_view c.args.typed.now) g p ls sizes there in
    (at.within, placed_within r sound c.args.limits.now fits p ls sizes at)
