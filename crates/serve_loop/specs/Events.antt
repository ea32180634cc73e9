-- What an `Event` means in the definitions.
use Rattle.serve_loop.specs.declared.stream.Event.{Event}
use Rattle.serve_loop.specs.declared.stream.Event.TheVariants as events
use Rattle.serve_loop.specs.History.{EventValue, accepted, connected, received, closed, drain}

-- the event without its references; why a stream was closed is left out
abbrev pub event_view : {F : Type 0} → Event F → EventValue F
event_view (events.Accepted k facts) = accepted k facts.now
event_view events.Connected = connected
event_view (events.Received s bytes) = received s bytes.now
event_view (events.Closed s reason) = closed s
event_view events.Drain = drain
