use Rattle.std.proofs.Common.{◌≡◌, false, ap, rules}
use Rattle.std.specs.Prelude.{is_some}
use Rattle.ads.specs.Ends.{client_view}
use Rattle.ads.proofs.StreamLemmas.{reported_down}
use Rattle.proxy_core.specs.Events.{OutputValue}
use Rattle.proxy_core.proofs.proxy.Proxy.receive_updates.Goals as goal

pub returns-then-not-is_up-clause-judged : goal.returns-then-not-is_up-clause-judged
returns-then-not-is_up-clause-judged c =
    let down : is_some (client_view c.args.self.now.client).stream ≡ false = search rules in
    reported_down (client_view c.args.self.now.client).stream (client_view c.args.self.now.client) _ c.args.bytes.now _ _
    down c.new.ensures.items

pub returns-clause-judged : goal.returns-clause-judged
returns-clause-judged c =
    rw (ap (λ (o : OutputValue). o.ads) c.on_ads-output.ensures) c.in_ok-fed.ensures.judged
