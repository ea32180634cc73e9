use Rattle.std.proofs.Common.{◌≡◌, refl, sym, ◌∙◌, Some}
use Rattle.proxy_core.specs.Proxies.{proxy_view}
use Rattle.proxy_core.specs.Step.{front_at}
use Rattle.proxy_core.proofs.Parts.{kept, kept_none, kept_not, not_none}
use Rattle.proxy_core.proofs.proxy.Proxy.keeps.Goals as goal

pub returns-in_default-clause-kept : goal.returns-in_default-clause-kept
returns-in_default-clause-kept c =
    kept_none (proxy_view c.args.self.now) (proxy_view c.take.new.self) (proxy_view c.take.new.self) c.args.k
    c.in_default.ensures.left (sym c.take.ensures.taken ∙ c.in_default.is)

pub returns-clause-kept : goal.returns-clause-kept
returns-clause-kept c =
    let there : front_at (proxy_view c.args.self.now) c.args.k ≡ Some c.in-Some.front =
    sym c.take.ensures.taken ∙ c.in-Some.is in
    kept (proxy_view c.args.self.now) (proxy_view c.take.new.self) (proxy_view c.put.new.self) c.args.k
    c.take.ensures.left c.in-Some.front c.kept_by-kept.new.front there c.in-Some.ensures.fits.1 c.put.ensures.put
    c.kept_by-kept.result c.args.bytes.now c.kept_by-kept.ensures.kept

pub returns-clause-fault : goal.returns-clause-fault
returns-clause-fault c =
    let there : front_at (proxy_view c.args.self.now) c.args.k ≡ Some c.in-Some.front =
    sym c.take.ensures.taken ∙ c.in-Some.is in
    kept_not (proxy_view c.args.self.now) (proxy_view c.take.new.self) (proxy_view c.put.new.self) c.args.k
    c.take.ensures.left c.in-Some.front c.kept_by-kept.new.front there c.in-Some.ensures.fits.1 c.put.ensures.put
    c.kept_by-kept.result c.kept_by-kept.ensures.fault

pub returns-clause-sure : goal.returns-clause-sure
returns-clause-sure c = λ none.
    absurd (not_none (proxy_view c.args.self.now) (proxy_view c.args.self.now) c.args.k c.in-Some.front refl
    (sym c.take.ensures.taken ∙ c.in-Some.is) none)
