-- By the network that was opened, which is given back.
use Rattle.std.proofs.Common.{sym, ◌∙◌}
use Rattle.rbacd.proofs.server.host.Goals as goal

pub returns : goal.returns
returns g c =
    let by = c.args.server_settings in let same = c.into_parts-network.ensures in
    let opened = c.in_ok-ended.ensures.opened by.conn by.settings c.in_ok-network.ensures.opened in
    let hosted = rw same.0 at c.close.ensures.hosted in let facts = rw same.0 at c.close.ensures.facts in (
      _,
      hosted by.conn by.settings opened,
      c.in_ok-ended.ensures.headline,
      facts by.conn by.settings opened,
      λ none. c.in_ok-ended.ensures.told (sym same.1 ∙ none),
    )
