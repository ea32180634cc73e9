use Rattle.rbac_serve.proofs.CallLemmas.{new_fits, new_reached, new_state}
use Rattle.rbac_serve.proofs.worker.Worker.new.Goals as goal

pub invariant_of-result : goal.invariant_of-result
invariant_of-result c = record {
  fits = new_fits c.in_ok-client.client c.args.places c.in_ok-new_connections.field-0.items c.in_ok-new_connections.ensures;
  reached = new_reached c.in_ok-client.client c.args.config.now c.args.places c.in_ok-new_connections.field-0.items
      c.new-2.result c.in_ok-client.ensures c.in_ok-new_connections.ensures c.new-2.ensures;
}

pub returns : goal.returns
returns c =
    new_state c.in_ok-client.client c.args.config.now c.args.places c.in_ok-new_connections.field-0.items c.new-2.result
    c.in_ok-client.ensures c.in_ok-new_connections.ensures c.new-2.ensures
