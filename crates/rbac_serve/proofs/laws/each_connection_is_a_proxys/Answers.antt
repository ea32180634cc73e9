use Rattle.proxy_core.proofs.Alone.{is_a_proxy, worker_headline}
use Rattle.rbac_serve.specs.Tables.{new_worker}
use Rattle.rbac_serve.specs.Turns.{calls_of}
use Rattle.rbac_serve.proofs.Turning.{calls_do}
use Rattle.rbac_serve.proofs.laws.each_connection_is_a_proxys.Goals as goal

pub returns-clause-calls : goal.returns-clause-calls
returns-clause-calls c = λ c n turns end all. calls_do turns (new_worker n c) end all

pub returns-clause-same : goal.returns-clause-same
returns-clause-same c = λ c n k turns end in' all.
    is_a_proxy c n k (calls_of turns) end.core in' (calls_do turns (new_worker n c) end all)

pub returns-clause-headline : goal.returns-clause-headline
returns-clause-headline c = λ c n k turns end in' all.
    worker_headline c n k (calls_of turns) end.core in' (calls_do turns (new_worker n c) end all)
