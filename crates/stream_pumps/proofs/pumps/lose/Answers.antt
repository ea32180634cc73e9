use Rattle.proxy_core.specs.Proxies.{proxy_view}
use Rattle.stream_pumps.proofs.PumpLemmas.{loss_reported}
use Rattle.stream_pumps.proofs.pumps.lose.Goals as goal

pub returns-clause-reported : goal.returns-clause-reported
returns-clause-reported c = loss_reported c.step.result (proxy_view c.args.proxy.now) _ c.step.ensures.found (c.step.ensures.sure tt)
