use Rattle.std.proofs.Common.{◌≡◌, sym, ◌∙◌, true≢false}
use Rattle.std.proofs.lemmas.Slice.Eq.{bytes_eq-Decides}
use Rattle.ads.specs.Config.{HasName}
use Rattle.ads.specs.Views.{filter_view}
use Rattle.ads.proofs.Lists.{some_at, none_more}
use Rattle.ads.proofs.config.has_name.Goals as goal

pub returns-then-eq : goal.returns-then-eq
returns-then-eq c =
    let same : c.as_str.result.now ≡ c.args.name.now =
    (bytes_eq-Decides c.as_str.result.now c.args.name.now).0 (sym c.eq.ensures ∙ c.if-eq.true) in
    let here : HasName c.args.name.now (filter_view c.filter-item.result) = sym c.as_str.ensures.value ∙ same in
    some_at (HasName c.args.name.now) filter_view c.args.filters.now c.loop-filter.filter-index
    c.filter-item.result c.loop-filter-test.true (rw (← c.filter-item.is) here)

pub loop-filter-preserved : goal.loop-filter-preserved
loop-filter-preserved c =
    let not : HasName c.args.name.now (filter_view c.filter-item.result) → ⊥ =
    λ same. true≢false (sym ((bytes_eq-Decides c.as_str.result.now c.args.name.now).1
    (c.as_str.ensures.value ∙ same)) ∙ sym c.eq.ensures ∙ c.if-eq.false) in
    none_more (HasName c.args.name.now) filter_view c.args.filters.now c.loop-filter.filter-index
    c.filter-item.result c.loop-filter-test.true c.loop-filter.invariant (rw (← c.filter-item.is) not)
