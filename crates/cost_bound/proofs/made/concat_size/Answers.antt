use Rattle.std.proofs.Common.{◌≡◌, ◌+◌, refl, ◌∙◌}
use Rattle.std.proofs.lemmas.Result.{IfOk-weaker}
use Rattle.cel_costs.specs.Sizes.{most_of}
use Rattle.cost_bound.specs.private.SizeView.{size_view}
use Rattle.cost_bound.proofs.Capped.{capped_same}
use Rattle.cost_bound.proofs.made.concat_size.Goals as goal

pub returns : goal.returns
returns c = IfOk-weaker c.resized.result _ _ (λ size h fits.
    let e : c.sum.result ≡ most_of (size_view c.args.first.now) + most_of (size_view c.args.second.now) =
    c.sum.ensures _ _ c.most.ensures.capped c.most-2.ensures.capped ∙ capped_same _ fits in
    h ∙ rw (e, c.in_ok-joined.ensures) refl) c.resized.ensures
