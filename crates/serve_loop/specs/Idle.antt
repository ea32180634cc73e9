-- Since when a connection is idle (this project's own; docs/REFERENCE.md, "The settings of a server").
use Rattle.std.specs.Prelude.{ℕ, Bool, false, Option, None, Some}
use Rattle.serve_loop.specs.declared.connection.Connection.{Connection}
use Rattle.serve_loop.specs.declared.connection.Phase.{Phase}
use Rattle.serve_loop.specs.declared.connection.Phase.TheVariants as phases

-- since when a connection in this phase is idle: no request has begun, no write is blocked and no turn is due. None if it
-- is not
abbrev pub idle_in : Phase → Option ℕ → Option ℕ → Bool → ℕ → Option ℕ
idle_in phases.Open None None false used = Some used
idle_in phase begun blocked is_due used = None

-- since when a connection is idle; none if it is not
abbrev pub idle_since : Connection → Option ℕ
idle_since c = idle_in c.phase c.begun c.flow.blocked c.is_due c.flow.used
