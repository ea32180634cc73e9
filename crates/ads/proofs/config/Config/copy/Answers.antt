use Rattle.std.proofs.Common.{◌≡◌}
use Rattle.ads.specs.Views.{entries_view}
use Rattle.ads.proofs.ConfigLemmas.{clones_view}
use Rattle.ads.proofs.config.Config.copy.Goals as goal

pub invariant_of-result : goal.invariant_of-result
invariant_of-result c =
    let same : entries_view c.in_ok-clone-3.field-0.entries ≡ entries_view c.self.inside.filters.entries =
    clones_view c.self.inside.filters.entries c.in_ok-clone-3.field-0.entries c.in_ok-clone-3.ensures.cases in
    rw (c.in_ok-clone.ensures.cases, c.in_ok-clone-2.ensures.cases, same) c.self.invariant

pub returns : goal.returns
returns c =
    let same : entries_view c.in_ok-clone-3.field-0.entries ≡ entries_view c.self.inside.filters.entries =
    clones_view c.self.inside.filters.entries c.in_ok-clone-3.field-0.entries c.in_ok-clone-3.ensures.cases in
    rw (c.in_ok-clone.ensures.cases, c.in_ok-clone-2.ensures.cases, same) c.self.view_is
