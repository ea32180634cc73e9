use Rattle.proxy_core.proofs.Alone.{is_a_proxy, worker_headline}
use Rattle.proxy_core.proofs.laws.worker_is_a_proxy.Goals as goal

pub returns-clause-same : goal.returns-clause-same
returns-clause-same c = is_a_proxy

pub returns-clause-headline : goal.returns-clause-headline
returns-clause-headline c = worker_headline
