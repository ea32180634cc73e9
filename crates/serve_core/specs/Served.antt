-- The turns of what a server serves, and its setup (this project's own).
use Rattle.std.specs.Prelude.{ℕ, List, Some, None}
use Rattle.rbac_serve.specs.Workers.{worker_view}
use Rattle.serve_loop.specs.declared.stream.Stream.{Stream}
use Rattle.serve_core.specs.ClientRequests.{rule_view}
use Rattle.serve_core.specs.Setups.{SetupValue, setup_of}
use Rattle.serve_core.specs.Turns.{ServerTurn, room_for, worker_room}
use Rattle.serve_core.specs.declared.served.Served.{Served}
use Rattle.serve_core.specs.declared.served.Served.TheVariants.{AsSent, Mapped}
use Rattle.serve_core.specs.declared.worker_service.WorkerService.{WorkerService}

-- the turns of the service
abbrev pub served_turns : Served → List ServerTurn
served_turns (AsSent service) = service.trace.turns
served_turns (Mapped service) = service.trace.turns

-- how many bytes of a stream the service takes
abbrev pub served_takes : Served → Stream → ℕ
served_takes (AsSent service) stream = worker_room (worker_view service.worker) service.room stream
served_takes (Mapped service) stream = room_for stream service.fronts.core.room

-- its core
abbrev pub served_core : Served → WorkerService
served_core (AsSent service) = service
served_core (Mapped service) = service.fronts.core

-- its setup
abbrev pub served_setup : Served → SetupValue
served_setup (AsSent service) = setup_of (worker_view service.worker) None
served_setup (Mapped service) = setup_of (worker_view service.fronts.core.worker) (Some (rule_view service.fronts.rule))
