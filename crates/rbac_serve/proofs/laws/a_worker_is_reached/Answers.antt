use Rattle.rbac_serve.proofs.laws.a_worker_is_reached.Goals as goal

pub returns : goal.returns
returns c = c.args.worker.now.reached
