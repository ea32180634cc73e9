-- One file more was read.
use Rattle.std.proofs.Common.{◌<◌, ◌+◌, ◌∙◌, ap, arith, inl, inr, length, string_bytes}
use Rattle.std.proofs.lemmas.Result.{err_from_is_err_and}
use Rattle.ads.proofs.Lists.{zip_more}
use Rattle.ads.specs.Control.{ResourceValue}
use Rattle.ads.specs.Views.{resource_view}
use Rattle.program_jobs.proofs.SnapshotLemmas.{first_at, one_filter}
use Rattle.program_jobs.proofs.snapshots.named_snapshot.Goals as goal

pub loop-path-preserved : goal.loop-path-preserved
loop-path-preserved g c =
    let within : c.loop-path.path-index < length c.args.names.now = omega (arith, c.loop-path-test.true, c.requires) in
    let named = one_filter c.args.names.now c.loop-path.path-index _ _ c.loop-path.resources.items _ _ within
    (c.len.ensures ∙ c.loop-path.invariant.0) c.in_ok-push.ensures.items
    (rw (c.as_str.ensures.value, c.index-names-len.is) at c.in_ok-filter_at.ensures.name) c.loop-path.invariant.1 in (
      c.in_ok-push.ensures.len ∙ ap (λ n. n + 1) c.loop-path.invariant.0,
      named,
      zip_more (λ path (r : ResourceValue). g.F.Source.holds c.args.files.now path r.filter) string_bytes resource_view
          c.args.paths.now c.loop-path.path-index _ c.loop-path.resources.items _ _ c.loop-path-test.true
          c.loop-path.invariant.2
          (rw (c.as_str-in-loop-path.ensures.value, c.path-item.is) at c.in_ok-filter_at.ensures.found)
          c.in_ok-push.ensures.items,
    )

pub returns-in_err-filter_at-clause-fault : goal.returns-in_err-filter_at-clause-fault
returns-in_err-filter_at-clause-fault g c =
    let p = err_from_is_err_and c.from_residual.result c.from_residual.ensures.1 in
    rw (p.1, p.2) (elim c.in_err-filter_at.ensures.fault [
      | inl memory ↦ inl memory
      | inr unread ↦
          inr (first_at (λ path (r : ResourceValue). g.F.Source.holds c.args.files.now path r.filter) _ _
          (λ path r held. (r.filter, held)) string_bytes c.args.paths.now c.loop-path.path-index _ _
          c.loop-path-test.true c.loop-path.invariant.2 (rw (c.as_str-in-loop-path.ensures.value, c.path-item.is) at unread))
    ])
