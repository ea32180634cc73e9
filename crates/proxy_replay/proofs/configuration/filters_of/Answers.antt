use Rattle.std.proofs.lemmas.Result.{err_from_is_err_and}
use Rattle.proxy_replay.proofs.ConfigurationLemmas.{filters_more, object_at}
use Rattle.proxy_replay.proofs.configuration.filters_of.Goals as goal

pub returns-in_err-filter-clause-fault : goal.returns-in_err-filter-clause-fault
returns-in_err-filter-clause-fault c =
    let p = err_from_is_err_and c.from_residual.result c.from_residual.ensures.1 in
    rw (p.1, p.2) (λ bad fs all.
    let reported = object_at c.args.items.now fs c.loop-item.item-index c.item-item.result c.loop-item-test.true all in
    c.in_err-filter.ensures.fault bad reported.0 (rw (← c.item-item.is) at reported.1))

pub loop-item-preserved : goal.loop-item-preserved
loop-item-preserved c =
    filters_more c.args.items.now c.loop-item.item-index c.item-item.result _ _ c.in_ok-filter.filter
    c.loop-item-test.true c.loop-item.invariant (rw (← c.item-item.is) c.in_ok-filter.ensures.found)
    c.in_ok-push.ensures.items
