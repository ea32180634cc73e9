-- The history of a network that was opened with these facts (this project's own).
use Rattle.std.specs.Prelude.{◌≡◌, List}
use Rattle.serve_core.specs.Turns.{ServerFacts, ServerStep}
use Rattle.serve_host.specs.declared.history.History.{History}
use Rattle.serve_loop.specs.Law.{wire_of}

-- a history that was opened with these facts has noted this wire
abbrev pub IsHistoryBy : ServerFacts → List ServerStep → Type 0
IsHistoryBy conn wire = (history : History) × (history.conn ≡ conn) × (wire_of history.trace.turns ≡ wire)
