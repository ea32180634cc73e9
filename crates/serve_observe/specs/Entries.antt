-- What the record is given of each event (this project's own; docs/OPERATING.md, "The record").
use Rattle.std.specs.Prelude.{◌≡◌, ◌-◌, ◌↔◌, ◌||◌, ℕ, Bool, true, false, Option, None, Some, IsTrue, if◌then◌else◌, length, option_copied, option_map, slice_get}
use Rattle.proxy_core.specs.Step.{front_at}
use Rattle.serve_loop.specs.History.{accepted, connected, received, closed, drain}
use Rattle.serve_loop.specs.declared.stream.Stream.TheVariants.{Place, Updates}
use Rattle.rbac_serve.specs.Tables.{IsFresh}
use Rattle.rbac_serve.specs.Workers.{worker_view}
use Rattle.serve_core.specs.Turns.{ServerEvent}
use Rattle.serve_core.specs.declared.served.Served.{Served}
use Rattle.serve_core.specs.declared.served.Served.TheVariants.{AsSent, Mapped}
use Rattle.serve_core.specs.declared.worker_service.WorkerService.{WorkerService}
use Rattle.serve_observe.specs.declared.record.Entry.{Entry}
use Rattle.serve_observe.specs.declared.record.Entry.TheVariants as entries

-- the event of the core that an entry is
abbrev pub event_in : Entry → ServerEvent
event_in (entries.Opened k number conn) = accepted k conn.now
event_in (entries.Received k bytes is_fresh) = received (Place k) bytes.now
event_in (entries.Closed k) = closed (Place k)
event_in entries.Up = connected
event_in (entries.Fed bytes outcome) = received Updates bytes.now
event_in entries.Lost = closed Updates

-- the event closes a stream
abbrev pub is_closing : ServerEvent → Bool
is_closing (closed s) = true
is_closing (accepted k conn) = false
is_closing connected = false
is_closing (received s bytes) = false
is_closing drain = false

-- the event is one of a connection
abbrev pub is_of_place : ServerEvent → Bool
is_of_place (accepted k conn) = true
is_of_place (received (Place k) bytes) = true
is_of_place (received Updates bytes) = false
is_of_place (closed (Place k)) = true
is_of_place (closed Updates) = false
is_of_place connected = false
is_of_place drain = false

-- the event, if it is one of the core; the end of the server is none
abbrev pub core_event : ServerEvent → Option ServerEvent
core_event (accepted k conn) = Some (accepted k conn)
core_event connected = Some connected
core_event (received s bytes) = Some (received s bytes)
core_event (closed s) = Some (closed s)
core_event drain = None

-- the event of the core that an event of the service is; that of a front's connection is none
abbrev pub event_by : Served → ServerEvent → Option ServerEvent
event_by (AsSent core) e = core_event e
event_by (Mapped fronts) e = if is_of_place e then None else core_event e

-- what is recorded of an event of the service; nothing of an opening or of bytes at which memory ran out
abbrev pub recorded : Served → Bool → ServerEvent → Option ServerEvent
recorded service is_taken e = if is_taken || is_closing e then event_by service e else None

-- what an entry says beside its event: the number of a connection that opens, or whether the core has it as fresh. If
-- bytes of the update stream complete a response, the entry says how the core judged it
abbrev pub Says : WorkerService → ℕ → Entry → Type 0
Says core number (entries.Opened k given conn) = given ≡ number
Says core number (entries.Received k bytes is_fresh) = IsTrue is_fresh ↔ IsFresh (front_at (worker_view core.worker).core k)
Says core number (entries.Closed k) = Unit {0}
Says core number entries.Up = Unit {0}
Says core number (entries.Fed bytes outcome) =
    let judgements = core.last.judgements.items in
    option_copied outcome ≡ option_map (λ j. j.outcome) (slice_get judgements (length judgements - 1))
Says core number entries.Lost = Unit {0}
