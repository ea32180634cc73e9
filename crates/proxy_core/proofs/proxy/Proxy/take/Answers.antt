use Rattle.std.proofs.Common.{◌≡◌, length, None, ◌∙◌, arith, rules}
use Rattle.ads.specs.Ends.{client_view}
use Rattle.proxy_core.proofs.Parts.{open_set, open_taken, taken_past, taken_within}
use Rattle.proxy_core.proofs.proxy.Proxy.take.Goals as goal

pub invariant_of-self : goal.invariant_of-self
invariant_of-self c = record {
  fronts = rw c.take.ensures.after (open_set (client_view c.args.self.now.client).config.limits c.args.self.now.conns
      c.args.k None tt c.args.self.now.fronts);
}

pub returns-then-k-lt-PLACES-clause-taken : goal.returns-then-k-lt-PLACES-clause-taken
returns-then-k-lt-PLACES-clause-taken c =
    c.take.ensures.value ∙ taken_within c.args.self.now.conns c.args.k _ (omega (arith, c.if-k-lt-PLACES.true))

pub returns-then-k-lt-PLACES-clause-fits : goal.returns-then-k-lt-PLACES-clause-fits
returns-then-k-lt-PLACES-clause-fits c =
    open_taken (client_view c.args.self.now.client).config.limits c.args.self.now.conns c.args.k _ c.take.result
    (omega (arith, c.if-k-lt-PLACES.true)) c.take.ensures.value c.args.self.now.fronts

pub returns-clause-taken : goal.returns-clause-taken
returns-clause-taken c =
    let n : length c.args.self.now.conns ≡ 8 = search rules in
    taken_past c.args.self.now.conns c.args.k (omega (arith, n, c.if-k-lt-PLACES.false))
