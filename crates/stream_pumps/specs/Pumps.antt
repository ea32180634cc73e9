-- The pumps of a proxy: the events that the core receives, in order, and what is written of each output.
use Rattle.std.specs.Prelude.{◌≡◌, ◌≢◌, ◌++◌, ⊤, ℕ, Bool, true, false, List, [], ◌∷◌, None, Option, map}
use Rattle.std.specs.Io.KnownBytes.{Appends, Consumes}
use Rattle.attributes.specs.Conn.{Facts}
use Rattle.proxy_core.specs.Events.{OutputValue, ads_bytes, ads_up, http_bytes, http_open, no_output}
use Rattle.proxy_core.specs.Step.{CallDoes, CallsDo, EventCall, ProxyValue, answered, no_memory, with_client, with_conn, event_of}
use Rattle.ads.specs.Client.{stream_down}
use Rattle.program_texts.specs.Output.{Takes}

-- the output of a call; nothing if memory ran out
abbrev pub output_of : EventCall → OutputValue
output_of (answered event out) = out
output_of (no_memory event) = no_output

-- the bytes that a call puts out for its connection
abbrev pub http_of : EventCall → List ℕ
http_of call = (output_of call).http

-- the bytes that a call puts out for the update stream
abbrev pub ads_of : EventCall → List ℕ
ads_of call = (output_of call).ads

-- the call leaves the connection open, and memory did not run out
abbrev pub StaysOpen : EventCall → Type 0
StaysOpen (answered event out) = out.http_close ≡ false
StaysOpen (no_memory event) = ⊥

-- the call leaves the update stream up, and memory did not run out
abbrev pub StaysUp : EventCall → Type 0
StaysUp (answered event out) = out.ads_close ≡ false
StaysUp (no_memory event) = ⊥

-- the call answers nothing on the update stream, and leaves it up
abbrev pub Waits : EventCall → Type 0
Waits call = StaysUp call × (ads_of call ≡ [])

-- the call answers on the update stream, and leaves it up
abbrev pub Responds : EventCall → Type 0
Responds call = StaysUp call × (ads_of call ≢ [])

-- the chunks, joined in order
abbrev pub joined : List (List ℕ) → List ℕ
joined [] = []
joined (chunk ∷ chunks) = chunk ++ joined chunks

-- `P` holds of each element except the last
abbrev pub AllButLast : {X : Type 0} → (X → Type 0) → List X → Type 0
AllButLast P [] = ⊤
AllButLast P (x ∷ []) = ⊤
AllButLast P (x ∷ next ∷ rest) = P x × AllButLast P (next ∷ rest)

-- the list is not empty, and `P` holds of its last element
abbrev pub LastIs : {X : Type 0} → (X → Type 0) → List X → Type 0
LastIs P [] = ⊥
LastIs P (x ∷ []) = P x
LastIs P (x ∷ next ∷ rest) = LastIs P (next ∷ rest)

-- texts are written in order: the writer took the whole of each text but the last, and of the last at least a beginning
abbrev pub WrittenInTurn : Option (List ℕ) → Option (List ℕ) → List (List ℕ) → Type 0
WrittenInTurn out out_new [] = Appends out out_new []
WrittenInTurn out out_new (text ∷ []) = Takes out out_new text
WrittenInTurn out out_new (text ∷ next ∷ rest) =
    (between : Option (List ℕ)) × Appends out between text × WrittenInTurn between out_new (next ∷ rest)

-- if the stream is up, nothing happens; otherwise the core has received the loss of the stream, and has none
abbrev pub EndsUpdates : ProxyValue → ProxyValue → Bool → Type 0
EndsUpdates between new true = new ≡ between
EndsUpdates between new false = new ≡ with_client between (stream_down between.client)

-- parameters: a proxy, the bytes that a reader has left, and the bytes that a writer took, each before and after
module _ (old new : ProxyValue) (input input_new out out_new : Option (List ℕ)) where
  -- the core received the opening of connection 0 and then the bytes that were read, in chunks. It received nothing
  -- after a call that closed the connection or ran out of memory. What the core put out was written in order
  pub record ReceivesConnection (facts : Facts) : Type 0 where
    pub chunks : List (List ℕ)
    pub calls : List EventCall
    pub done : CallsDo old calls new
    pub events : map event_of calls ≡ http_open 0 facts ∷ map (http_bytes 0) chunks
    pub is_open : AllButLast StaysOpen calls
    pub read : Consumes input input_new (joined chunks)
    pub written : WrittenInTurn out out_new (map http_of calls)

  -- the core received the bytes of the update stream that were read, in chunks. It received nothing after a call that
  -- answered, closed the stream or ran out of memory. What the core put out was written in order. If the stream is up,
  -- the last chunk was answered, and everything was written
  pub record Receives (is_up : Bool) : Type 0 where
    pub chunks : List (List ℕ)
    pub calls : List EventCall
    pub done : CallsDo old calls new
    pub events : map event_of calls ≡ map ads_bytes chunks
    pub waits : AllButLast Waits calls
    pub read : Consumes input input_new (joined chunks)
    pub written : WrittenInTurn out out_new (map ads_of calls)
    pub responds : is_up ≡ true → LastIs Responds calls
    pub whole : is_up ≡ true → Appends out out_new (joined (map ads_of calls))

-- a connection was served: the core received its bytes, and then its closing, after which its place is empty
pub record Serves (old new : ProxyValue) (input input_new out out_new : Option (List ℕ)) (facts : Facts) : Type 0 where
  pub between : ProxyValue
  pub receives : ReceivesConnection old between input input_new out out_new facts
  pub closes : new ≡ with_conn between 0 None

-- the core received the start of an update stream, and its first request was written, at least in part. If the stream
-- is not up, the core has also received its loss
pub record Opens (old new : ProxyValue) (out out_new : Option (List ℕ)) (is_up : Bool) : Type 0 where
  pub between : ProxyValue
  pub call : EventCall
  pub given : event_of call ≡ ads_up
  pub does : CallDoes old call between
  pub written : Takes out out_new (ads_of call)
  pub came : is_up ≡ true → StaysUp call × Appends out out_new (ads_of call)
  pub ends : EndsUpdates between new is_up

-- a response was received and answered; or the stream was lost, and the core has received its loss
pub record TakesResponse (old new : ProxyValue) (input input_new out out_new : Option (List ℕ)) (is_up : Bool) : Type 0 where
  pub between : ProxyValue
  pub receives : Receives old between input input_new out out_new is_up
  pub ends : EndsUpdates between new is_up
