-- The core under the loop: the turns that it took, its worker, and what the last event led to (this project's own).
use Rattle.std.specs.Prelude.{◌≡◌, ℕ, List, [], ◌∷◌, Option, None, length}
use Rattle.ads.specs.declared.ended.Ended.{Ended}
use Rattle.ads.specs.declared.judgement.Judgement.{Judgement}
use Rattle.proxy_core.specs.Step.{front_at}
use Rattle.proxy_core.specs.declared.answered_ask.AnsweredAsk.{AnsweredAsk}
use Rattle.serve_loop.specs.declared.stream.Stream.TheVariants.{Place, Updates}
use Rattle.serve_loop.specs.History.{accepted, connected, received, closed, drain}
use Rattle.rbac_serve.specs.Tables.{WorkerValue}
use Rattle.rbac_serve.specs.Turns.{AnswersAt, JudgesTurn}
use Rattle.rbac_serve.specs.Workers.{worker_view}
use Rattle.serve_core.specs.Turns.{Does, ServerEvent, ServerTurn, added_by, kept_before}
use Rattle.serve_core.specs.declared.last_event.LastEvent.{LastEvent}
use Rattle.serve_core.specs.declared.worker_service.WorkerService.{WorkerService}

-- the core: the turns that it took, the newest first, and the worker after them
pub record CoreValue : Type 0 where
  pub turns : List ServerTurn
  pub worker : WorkerValue

-- the core that a `WorkerService` means
abbrev pub core_view : WorkerService → CoreValue
core_view s = record { turns = s.trace.turns; worker = worker_view s.worker }

-- the core takes one turn
abbrev pub Turns : CoreValue → ServerTurn → CoreValue → Type 0
Turns old turn new = (new.turns ≡ turn ∷ old.turns) × Does old.worker turn new.worker

-- what was asked at an event, with its answers as bytes: the asks in the bytes of a connection, if one is open, or none
abbrev pub AsksAt : ServerEvent → WorkerValue → List AnsweredAsk → List ℕ → Type 0
AsksAt (received (Place k) bytes) old asked out =
    AnswersAt (front_at old.core k) old.core.client.accepted bytes asked out
AsksAt (received Updates bytes) old asked out = asked ≡ []
AsksAt (accepted k conn) old asked out = asked ≡ []
AsksAt connected old asked out = asked ≡ []
AsksAt (closed s) old asked out = asked ≡ []
AsksAt drain old asked out = asked ≡ []

-- what was judged at an event, and why the update stream ends: the responses that its bytes complete, or none
abbrev pub JudgesAt : ServerEvent → WorkerValue → List Judgement → Option Ended → WorkerValue → Type 0
JudgesAt (received Updates bytes) old judgements ends new = JudgesTurn old bytes (length bytes) judgements ends new
JudgesAt (received (Place k) bytes) old judgements ends new = (judgements ≡ []) × (ends ≡ None)
JudgesAt (accepted k conn) old judgements ends new = (judgements ≡ []) × (ends ≡ None)
JudgesAt connected old judgements ends new = (judgements ≡ []) × (ends ≡ None)
JudgesAt (closed s) old judgements ends new = (judgements ≡ []) × (ends ≡ None)
JudgesAt drain old judgements ends new = (judgements ≡ []) × (ends ≡ None)

-- what was found of an event: what was asked and judged at it
pub record Tells (event : ServerEvent) (old : WorkerValue) (last : LastEvent) (new : WorkerValue) : Type 0 where
  pub asked : AsksAt event old last.answered_asks.items (added_by event (kept_before event old) new)
  pub judged : JudgesAt event old last.judgements.items last.ended new

-- nothing was asked or judged
abbrev pub IsQuiet : LastEvent → Type 0
IsQuiet last = (last.answered_asks.items ≡ []) × (last.judgements.items ≡ []) × (last.ended ≡ None)
