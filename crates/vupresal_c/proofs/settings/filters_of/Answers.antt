use Rattle.std.proofs.lemmas.Result.{err_from_is_err_and}
use Rattle.vupresal_c.proofs.Texts.{no_texts}
use Rattle.vupresal_c.proofs.settings.filters_of.Goals as goal

pub returns-in_err-filter-clause-fault : goal.returns-in_err-filter-clause-fault
returns-in_err-filter-clause-fault c =
    let p = err_from_is_err_and c.from_residual.result c.from_residual.ensures.1 in
    rw (p.1, p.2) (no_texts c.args.resources.now c.loop-resource.resource-index _ c.in_err-filter.field-0.0
    c.loop-resource-test.true c.in_err-filter.ensures.fault)
