-- The headline of what is on the wire of a server behind front proxies.
use Rattle.std.proofs.Common.{List, length}
use Rattle.std.proofs.Math.Logic.{∥∥₁_elim, ∥∥₁_map, ∥∥₁_prop}
use Rattle.proxy_core.proofs.Alone.{worker_headline}
use Rattle.serve_loop.specs.Law.{Belong}
use Rattle.serve_loop.proofs.Sending.{all_sent}
use Rattle.rbac_serve.specs.Tables.{new_worker}
use Rattle.rbac_serve.specs.Workers.{worker_view}
use Rattle.rbac_serve.proofs.Turning.{calls_do}
use Rattle.serve_core.specs.ClientRequests.{RuleValue, rule_view}
use Rattle.serve_core.specs.Fronts.{FrontsRun, FrontsValue, fronts_view}
use Rattle.serve_core.specs.Headline.{core_calls}
use Rattle.serve_core.specs.MappedHeadline.{MappedHeadline, ServedHeadline}
use Rattle.serve_core.specs.Served.{served_setup, served_turns}
use Rattle.serve_core.specs.Turns.{IsDriven, ServerEvent, ServerStep, ServerTurn, worker_turns}
use Rattle.serve_core.specs.declared.served.Served.{Served}
use Rattle.serve_core.specs.declared.served.Served.TheVariants.{AsSent, Mapped}
use Rattle.serve_core.proofs.Wire.{wire_headline}

mapped_headline : (rule : RuleValue) (wire : List ServerStep) (turns : List ServerTurn) (seen : List ServerEvent)
    (fronts : FrontsValue) → Belong wire turns seen → FrontsRun rule turns fronts
    → IsDriven fronts.core.turns fronts.core.worker
    → MappedHeadline rule fronts.core.worker.core.client.config (length fronts.core.worker.core.conns) wire
mapped_headline rule wire turns seen fronts belong run driven =
    let w = fronts.core.worker in
    record {
      turns = turns;
      wire_is = belong.wire_is;
      orderly = belong.orderly;
      in_order = λ s. all_sent s turns belong.in_order;
      fronts = fronts;
      run = run;
      each = λ k within. worker_headline w.core.client.config (length w.core.conns) k (core_calls fronts.core.turns) w.core within
          (calls_do (worker_turns fronts.core.turns) (new_worker (length w.core.conns) w.core.client.config) w driven);
    }

pub served_headline : (service : Served) (wire : List ServerStep) (seen : List ServerEvent)
    → Belong wire (served_turns service) seen → ∥ ServedHeadline (served_setup service) wire ∥₁
served_headline (AsSent service) wire seen belong =
    ∥∥₁_map service.driven (wire_headline wire service.trace.turns seen (worker_view service.worker) belong)
served_headline (Mapped service) wire seen belong =
    ∥∥₁_elim service.run ∥∥₁_prop (λ run. ∥∥₁_map service.fronts.core.driven
    (mapped_headline (rule_view service.fronts.rule) wire service.trace.turns seen (fronts_view service.fronts) belong run))
