-- What the last event led to: what was asked and judged at it.
use Rattle.std.proofs.Common.{◌≡◌, ℕ, Bool, List, [], length, sym, subst, None, Result, Ok, Err}
use Rattle.std.specs.Prelude.{IfOk}
use Rattle.proxy_core.specs.Events.{http_bytes, http_output}
use Rattle.proxy_core.specs.Step.{front_at}
use Rattle.serve_loop.specs.declared.stream.Stream.TheVariants.{Place}
use Rattle.serve_loop.specs.declared.stream.Stream.{Stream}
use Rattle.serve_loop.specs.History.{accepted, closed, connected, drain, received}
use Rattle.rbac_serve.specs.Tables.{WorkerValue, waiting_at}
use Rattle.rbac_serve.specs.Turns.{AnswersAt, Works}
use Rattle.serve_core.specs.Cores.{IsQuiet, Tells}
use Rattle.serve_core.specs.Turns.{ServerFacts}
use Rattle.serve_core.specs.declared.last_event.LastEvent.{LastEvent}
use Rattle.serve_core.proofs.Driving.{received_adds}

-- nothing is asked or judged at an event that brings no bytes
pub accepted_tells : (k : ℕ) (conn : ServerFacts) (old new : WorkerValue) (last : LastEvent) → IsQuiet last
    → Tells (accepted k conn) old last new
accepted_tells k conn old new last (asked, judged, ends) = record { asked = asked; judged = (judged, ends) }

pub connected_tells : (old new : WorkerValue) (last : LastEvent) → IsQuiet last → Tells connected old last new
connected_tells old new last (asked, judged, ends) = record { asked = asked; judged = (judged, ends) }

pub closed_tells : (s : Stream) (old new : WorkerValue) (last : LastEvent) → IsQuiet last → Tells (closed s) old last new
closed_tells s old new last (asked, judged, ends) = record { asked = asked; judged = (judged, ends) }

pub drain_tells : (old new : WorkerValue) (last : LastEvent) → IsQuiet last → Tells drain old last new
drain_tells old new last (asked, judged, ends) = record { asked = asked; judged = (judged, ends) }

-- of a result's value it holds if it holds anyway
pub anyway : {T E : Type 0} (r : Result T E) (P : Type 0) → P → IfOk r (λ _. P)
anyway (Ok x) P p = p
anyway (Err e) P p = tt

-- the asks in the bytes of a connection, and their answers
pub received_tells : (old new : WorkerValue) (k : ℕ) (bytes http : List ℕ) (closes : Bool) (last : LastEvent)
    → length old.answers ≡ length old.core.conns → Works old (http_bytes k bytes) (http_output http closes) new
    → AnswersAt (front_at old.core k) old.core.client.accepted bytes last.answered_asks.items http
    → (last.judgements.items ≡ []) × (last.ended ≡ None) → Tells (received (Place k) bytes) old last new
received_tells old new k bytes http closes last places works at none = record {
  asked = subst (λ (l : List ℕ). AnswersAt (front_at old.core k) old.core.client.accepted bytes last.answered_asks.items l)
      (sym (received_adds old new k bytes http closes places works)) at;
  judged = none;
}
