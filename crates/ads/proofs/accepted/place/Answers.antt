use Rattle.std.proofs.Common.{◌≡◌, length, sym, ◌∙◌, []}
use Rattle.ads.specs.Views.{policies_view}
use Rattle.ads.proofs.PlaceLemmas.{place_none, place_some, replaced_nothing, no_length}
use Rattle.ads.proofs.accepted.place.Goals as goal

pub loop-newest-preserved : goal.loop-newest-preserved
loop-newest-preserved c =
    let p = place_none c.loop-newest.policies.items c.pop.new.self.items c.loop-newest.given.items c.in-Some.newest _
    c.loop-newest.invariant.0 c.loop-newest.invariant.1 (rw c.in-Some.is at c.pop.ensures.items)
    c.if-is_some.ensures in
    (p.0, p.1, c.loop-newest.invariant.2)

pub loop-newest-preserved-then-is_some : goal.loop-newest-preserved-then-is_some
loop-newest-preserved-then-is_some c =
    let same : c.len.result ≡ length c.pop.new.self.items = c.len.ensures ∙ c.pop.new.self.ok.0 in
    let p = place_some c.loop-newest.policies.items c.pop.new.self.items c.loop-newest.given.items c.in-Some.newest _
    c.len.result same c.loop-newest.invariant.0 c.loop-newest.invariant.1
    (rw c.in-Some.is at c.pop.ensures.items) c.if-is_some.ensures in
    (p.0, p.1, p.2 ∙ c.loop-newest.invariant.2)

pub loop-newest-preserved-then-is_some-2 : goal.loop-newest-preserved-then-is_some-2
loop-newest-preserved-then-is_some-2 c =
    let same : c.len.result ≡ length c.pop.new.self.items = c.len.ensures ∙ c.pop.new.self.ok.0 in
    let p = place_some c.loop-newest.policies.items c.pop.new.self.items c.loop-newest.given.items c.in-Some.newest _
    c.len.result same c.loop-newest.invariant.0 c.loop-newest.invariant.1
    (rw c.in-Some.is at c.pop.ensures.items) c.if-is_some.ensures in
    (p.0, p.1, p.2 ∙ c.loop-newest.invariant.2)

pub returns-clause-placed : goal.returns-clause-placed
returns-clause-placed c =
    let none : c.loop-newest.given.items ≡ [] =
    no_length _ (sym c.loop-newest.given.ok.0 ∙ c.in_default.ensures.cases.0) in
    let all = c.loop-newest.invariant.0 in
    sym (replaced_nothing (policies_view c.loop-newest.policies.items)) ∙ rw none at all
