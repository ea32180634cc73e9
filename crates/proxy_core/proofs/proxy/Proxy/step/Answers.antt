use Rattle.proxy_core.proofs.proxy.Proxy.step.Goals as goal

pub returns-in-HttpOpen-clause-sure : goal.returns-in-HttpOpen-clause-sure
returns-in-HttpOpen-clause-sure c = λ quiet. c.http_open.ensures.sure (rw c.in-HttpOpen.is at quiet)
