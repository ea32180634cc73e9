use Rattle.std.proofs.Common.{◌∙◌}
use Rattle.std.proofs.lemmas.Result.{IfOk-weaker}
use Rattle.cost_bound.proofs.Locals.{local_beyond, local_inside, local_outside}
use Rattle.cost_bound.proofs.SizeViews.{view_flat}
use Rattle.cost_bound.proofs.scope.find.Goals as goal

pub returns-then-place-count : goal.returns-then-place-count
returns-then-place-count c =
    let there = local_outside c.args.outside c.args.at.now.around.locals.now c.args.at.now.inner.now c.index-at-place.result
    c.if-place-count.true in
    IfOk-weaker c.copy.result _ _ (λ size h. h ∙ there) c.copy.ensures

pub returns-then-place-count-2 : goal.returns-then-place-count-2
returns-then-place-count-2 c =
    let there = local_inside c.args.outside c.args.at.now.around.locals.now c.args.at.now.inner.now
    c.index-at-place-then-place-count-2.result c.if-place-count.false c.if-place-count-2.true in
    IfOk-weaker c.copy-then-place-count-2.result _ _ (λ size h. h ∙ there) c.copy-then-place-count-2.ensures

pub returns : goal.returns
returns c =
    view_flat ∙ local_beyond c.args.outside c.args.at.now.around.locals.now c.args.at.now.inner.now c.if-place-count.false
    c.if-place-count-2.false
