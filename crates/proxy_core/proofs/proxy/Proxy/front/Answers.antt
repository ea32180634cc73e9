use Rattle.std.proofs.Common.{sym, ◌∙◌, Some}
use Rattle.std.proofs.lemmas.Bool.{ltb-true}
use Rattle.ads.specs.Ends.{client_view}
use Rattle.proxy_core.proofs.Parts.{open_taken, taken_within}
use Rattle.proxy_core.proofs.proxy.Proxy.front.Goals as goal

pub returns-in-Some-Some-clause-fits : goal.returns-in-Some-Some-clause-fits
returns-in-Some-Some-clause-fits c =
    let at = c.in-Some-Some.ensures.lookup in
    open_taken (client_view c.args.self.now.client).config.limits c.args.self.now.conns c.args.k
    c.in-Some-Some.field-0.now (Some c.in-Some-Some.front) (ltb-true _ _ (sym at.0)) (sym (sym at.1 ∙ c.in-Some-Some.field-0-is))
    c.args.self.now.fronts

pub returns-in-Some-None-clause-found : goal.returns-in-Some-None-clause-found
returns-in-Some-None-clause-found c =
    let at = c.in-Some-None.ensures.lookup in
    sym (taken_within c.args.self.now.conns c.args.k c.in-Some-None.field-0.now
    (ltb-true _ _ (sym at.0)))
    ∙ (sym at.1 ∙ c.in-Some-None.field-0-is)
