use Rattle.std.proofs.lemmas.Result.{err_from_is_err_and}
use Rattle.ads.specs.Config.{FilterIsAtFault}
use Rattle.ads.specs.Views.{filter_view}
use Rattle.ads.proofs.Lists.{some_at}
use Rattle.ads.proofs.config.check_filters.Goals as goal

pub returns-in_err-check_filter-clause-fault : goal.returns-in_err-check_filter-clause-fault
returns-in_err-check_filter-clause-fault c =
    let p = err_from_is_err_and c.from_residual.result c.from_residual.ensures.1 in
    let e = c.in_err-check_filter.field-0.0 in
    let bad : FilterIsAtFault (filter_view c.filter-item.result) e = c.in_err-check_filter.ensures.fault in
    rw (p.1, p.2) (some_at (λ f. FilterIsAtFault f e) filter_view c.args.filters.now
    c.loop-filter.filter-index c.filter-item.result c.loop-filter-test.true (rw (← c.filter-item.is) bad))
