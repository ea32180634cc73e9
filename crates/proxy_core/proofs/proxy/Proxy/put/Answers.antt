use Rattle.ads.specs.Ends.{client_view}
use Rattle.proxy_core.proofs.Parts.{open_set}
use Rattle.proxy_core.proofs.proxy.Proxy.put.Goals as goal

pub invariant_of-self : goal.invariant_of-self
invariant_of-self c = (
  open_set (client_view c.args.self.now.client).config.limits c.args.self.now.conns c.args.k c.args.front c.requires
      c.args.self.now.fronts,
  tt,
)
