-- The effects of single steps of the pumps.
use Rattle.std.specs.Prelude.{◌≡◌, ◌≢◌, Bool, true, false, List, [], ℕ, Option}
use Rattle.std.specs.Io.KnownBytes.{Appends}
use Rattle.ads.specs.Control.{ControlValue}
use Rattle.proxy_core.specs.Events.{EventValue}
use Rattle.proxy_core.specs.Step.{CallDoes, EventCall, ProxyValue, event_of}
use Rattle.stream_pumps.specs.ControlPump.{FeedCall, FeedDoes, GoesOn, bytes_of, replies_of}
use Rattle.program_texts.specs.Output.{Takes}
use Rattle.stream_pumps.specs.Pumps.{Responds, StaysOpen, StaysUp, Waits, ads_of, http_of}
use Rattle.stream_pumps.specs.declared.pumps.EventResult.{EventResult}
use Rattle.stream_pumps.specs.declared.pumps.EventResult.TheVariants as turns

-- the result of an event for which these bytes were written, and after which the stream or connection is closed or not
abbrev pub IsResultOf : List ℕ → Bool → EventResult → Type 0
IsResultOf written closes turns.Ended = closes ≡ true
IsResultOf written closes turns.Waits = (closes ≡ false) × (written ≡ [])
IsResultOf written closes turns.Answered = (closes ≡ false) × (written ≢ [])

-- the core received this event of a connection, and what it put out was written, at least in part. If the connection is
-- not at its end, everything was written, and the connection stays open
pub record Answers (old new : ProxyValue) (out out_new : Option (List ℕ)) (event : EventValue) (turn : EventResult)
    : Type 0 where
  pub call : EventCall
  pub given : event_of call ≡ event
  pub does : CallDoes old call new
  pub written : Takes out out_new (http_of call)
  pub whole : turn ≢ turns.Ended → StaysOpen call × Appends out out_new (http_of call)

-- the core received this event of the update stream, and what it put out was written, at least in part. If the stream
-- is not at its end, everything was written, and the stream stays up. The result says whether it was answered
pub record Updates (old new : ProxyValue) (out out_new : Option (List ℕ)) (event : EventValue) (turn : EventResult)
    : Type 0 where
  pub call : EventCall
  pub given : event_of call ≡ event
  pub does : CallDoes old call new
  pub written : Takes out out_new (ads_of call)
  pub whole : turn ≢ turns.Ended → StaysUp call × Appends out out_new (ads_of call)
  pub waits : turn ≡ turns.Waits → Waits call
  pub responds : turn ≡ turns.Answered → Responds call

-- a control plane received these bytes, and what it sent was written, at least in part. If the stream goes on,
-- everything was written
pub record Feeds (old new : ControlValue) (out out_new : Option (List ℕ)) (bytes : List ℕ) (is_up : Bool) : Type 0 where
  pub call : FeedCall
  pub given : bytes_of call ≡ bytes
  pub does : FeedDoes old call new
  pub written : Takes out out_new (replies_of call)
  pub on : is_up ≡ true → GoesOn call
  pub whole : is_up ≡ true → Appends out out_new (replies_of call)
