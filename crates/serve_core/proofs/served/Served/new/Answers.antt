-- By the service that it is.
use Rattle.std.proofs.Common.{Some, None, ap, ◌∙◌}
use Rattle.rbac_serve.specs.Workers.{worker_view}
use Rattle.serve_core.specs.ClientRequests.{RuleValue, rule_view}
use Rattle.serve_core.proofs.Setups.{new_setup, setup_with}
use Rattle.serve_core.proofs.served.Served.new.Goals as goal

pub returns-in_ok-mapped-in-Some-clause-setup : goal.returns-in_ok-mapped-in-Some-clause-setup
returns-in_ok-mapped-in-Some-clause-setup c =
    let fronts = c.in_ok-mapped-in-Some.mapped.fronts in
    rw c.in-Some.is (new_setup (worker_view fronts.core.worker) c.args.places c.args.config.now (Some (rule_view fronts.rule))
    c.in_ok-mapped-in-Some.ensures.core
    ∙ ap (λ (r : RuleValue). setup_with c.args.config.now c.args.places (Some r)) c.in_ok-mapped-in-Some.ensures.rule)

pub returns-in_ok-core-in-None-clause-setup : goal.returns-in_ok-core-in-None-clause-setup
returns-in_ok-core-in-None-clause-setup c = rw c.in-None.is (new_setup (worker_view c.in_ok-core-in-None.core.worker) c.args.places c.args.config.now None
    c.in_ok-core-in-None.ensures.1)
