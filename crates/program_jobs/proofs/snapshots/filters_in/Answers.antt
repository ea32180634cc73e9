-- One resource more is a filter.
use Rattle.std.proofs.Common.{inl, inr}
use Rattle.std.proofs.lemmas.Result.{err_from_is_err_and}
use Rattle.xds_wire.specs.View.{any_view}
use Rattle.ads.specs.Answer.{IsResource}
use Rattle.ads.specs.Control.{extension_of}
use Rattle.ads.specs.Views.{resource_view}
use Rattle.ads.proofs.Lists.{zip_more}
use Rattle.program_jobs.proofs.SnapshotLemmas.{none_at}
use Rattle.program_jobs.proofs.snapshots.filters_in.Goals as goal

pub loop-resource-preserved : goal.loop-resource-preserved
loop-resource-preserved c =
    zip_more (λ any r. IsResource any (extension_of r)) any_view resource_view c.args.resources.now
    c.loop-resource.resource-index _ c.loop-resource.filters.items _ _ c.loop-resource-test.true
    c.loop-resource.invariant c.in_ok-filter_in.ensures.found c.in_ok-push.ensures.items

pub returns-in_err-filter_in-clause-fault : goal.returns-in_err-filter_in-clause-fault
returns-in_err-filter_in-clause-fault c =
    let p = err_from_is_err_and c.from_residual.result c.from_residual.ensures.1 in
    rw (p.1, p.2) (elim c.in_err-filter_in.ensures.fault [
      | inl memory ↦ inl memory
      | inr none ↦ inr (λ filters.
          none_at (λ any r. IsResource any (extension_of r)) any_view c.args.resources.now
          c.loop-resource.resource-index _ filters c.loop-resource-test.true none)
    ])
