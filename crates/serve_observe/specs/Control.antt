-- What is known of the control plane (this project's own; docs/REFERENCE.md, "The admin port" and "Lines of the logs").
use Rattle.std.specs.Prelude.{◌≡◌, ◌≤◌, ◌+◌, ◌-◌, ◌&&◌, ℕ, nat_le, not, Bool, true, false, List, [], ◌∷◌, Option, None, Some, if◌then◌else◌}
use Rattle.serve_admin.specs.declared.metrics.Metrics.{Metrics}
use Rattle.serve_loop.specs.History.{EventValue, accepted, connected, received, closed, drain}
use Rattle.serve_loop.specs.declared.observer.Failed.{Failed}
use Rattle.serve_loop.specs.declared.observer.Failed.TheVariants.{Accept, Connect}
use Rattle.serve_loop.specs.declared.stream.Stream.TheVariants.{Place, Updates}
use Rattle.serve_observe.specs.Sampling.{one_more}
use Rattle.serve_observe.specs.declared.control.ControlState.{ControlState}

-- something that was last reported at this time, if it was, is reported again: a minute has passed
abbrev pub is_due : Option ℕ → ℕ → Bool
is_due None now = true
is_due (Some last) now = nat_le 60000 (now - last)

-- the stream was not opened yet
abbrev pub no_control : ControlState
no_control = record { is_open = false; is_unread = false; errors = 0; logged = None; says_unread = false }

-- the stream is open, and its file can be read
abbrev pub is_up : ControlState → Bool
is_up c = c.is_open && not c.is_unread

-- the stream was opened: its file was read
abbrev pub opened : ControlState → ControlState
opened c = record c { is_open = true; is_unread = false; says_unread = false }

-- after an event, which the service took or not
abbrev pub after_event : {F : Type 0} → EventValue F → Bool → ControlState → ControlState
after_event connected is_taken c = if is_taken then opened c else c
after_event (closed Updates) is_taken c = record c { is_open = false }
after_event (closed (Place k)) is_taken c = c
after_event (accepted k facts) is_taken c = c
after_event (received s bytes) is_taken c = c
after_event drain is_taken c = c

-- after an opening that failed; that of a connection is none of the control plane
abbrev pub after_failed_opening : Failed → ControlState → ControlState
after_failed_opening Accept c = c
after_failed_opening Connect c = record c { is_open = false; errors = one_more c.errors }

-- a look at the file failed
abbrev pub unread : ControlState → ControlState
unread c = record c { is_unread = true; errors = one_more c.errors }

-- after a look at the file that failed at this time: it is logged if that is due
abbrev pub after_failed_look : ℕ → ControlState → ControlState
after_failed_look now c =
    if is_due c.logged now then record (unread c) { logged = Some now; says_unread = true } else unread c

-- after a look at the file that did not fail any more
abbrev pub after_good_look : ControlState → ControlState
after_good_look c = record c { is_unread = false; says_unread = false }

-- the metrics show what is known
abbrev pub Shows : ControlState → Metrics → Type 0
Shows c metrics = (metrics.stream_up ≡ is_up c) × (metrics.control_errors ≡ c.errors)

-- what happens to a control plane, as a server sees it
pub data ControlStep (F : Type 0) : Type 0 where
  event : EventValue F → Bool → ControlStep F
  failed_opening : Failed → ControlStep F
  failed_look : ℕ → ControlStep F
  good_look : ControlStep F

-- what is known after these steps, the latest first
abbrev pub known_after : {F : Type 0} → List (ControlStep F) → ControlState
known_after [] = no_control
known_after (event e is_taken ∷ steps) = after_event e is_taken (known_after steps)
known_after (failed_opening failed ∷ steps) = after_failed_opening failed (known_after steps)
known_after (failed_look now ∷ steps) = after_failed_look now (known_after steps)
known_after (good_look ∷ steps) = after_good_look (known_after steps)

-- when it was logged in these steps that the file cannot be read, the latest first
abbrev pub logged_times : {F : Type 0} → List (ControlStep F) → List ℕ
logged_times [] = []
logged_times (failed_look now ∷ steps) =
    if is_due (known_after steps).logged now then now ∷ logged_times steps else logged_times steps
logged_times (event e is_taken ∷ steps) = logged_times steps
logged_times (failed_opening failed ∷ steps) = logged_times steps
logged_times (good_look ∷ steps) = logged_times steps

-- each time is at least a minute after the one before it
abbrev pub AreMinutesApart : List ℕ → Type 0
AreMinutesApart [] = Unit {0}
AreMinutesApart (time ∷ []) = Unit {0}
AreMinutesApart (time ∷ last ∷ times) = (last + 60000 ≤ time) × AreMinutesApart (last ∷ times)
