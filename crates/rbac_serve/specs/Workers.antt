-- What a `Worker` means in the definitions.
use Rattle.rbac_serve.specs.Tables.{WorkerValue, state_of}
use Rattle.rbac_serve.specs.declared.worker.Worker.{Worker}

-- the worker that a `Worker` means
abbrev pub worker_view : Worker → WorkerValue
worker_view w = state_of w.client w.connections.items w.requests
