-- The headline of what is on the wire.
use Rattle.std.proofs.Common.{List, length}
use Rattle.proxy_core.proofs.Alone.{worker_headline}
use Rattle.serve_loop.specs.Law.{Belong}
use Rattle.serve_loop.proofs.Sending.{all_sent}
use Rattle.rbac_serve.specs.Tables.{WorkerValue, new_worker}
use Rattle.rbac_serve.proofs.Turning.{calls_do}
use Rattle.serve_core.specs.Headline.{ServerHeadline, core_calls}
use Rattle.serve_core.specs.Turns.{IsDriven, ServerEvent, ServerStep, ServerTurn, worker_turns}

pub wire_headline : (wire : List ServerStep) (turns : List ServerTurn)
    (seen : List ServerEvent) (w : WorkerValue) → Belong wire turns seen → IsDriven turns w
    → ServerHeadline w.core.client.config (length w.core.conns) wire
wire_headline wire turns seen w belong driven = record {
  turns = turns;
  wire_is = belong.wire_is;
  orderly = belong.orderly;
  in_order = λ s. all_sent s turns belong.in_order;
  each = λ k within. worker_headline w.core.client.config (length w.core.conns) k (core_calls turns) w.core within
      (calls_do (worker_turns turns) (new_worker (length w.core.conns) w.core.client.config) w driven);
}
