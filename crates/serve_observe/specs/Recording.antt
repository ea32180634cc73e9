-- What the record gets at each entry, and at each event (this project's own; docs/OPERATING.md, "The record").
use Rattle.std.specs.Prelude.{◌≡◌, ◌+◌, ◌-◌, ◌^◌, ℕ, Bool, true, false, List, [], ◌∷◌, Option, None, Some, IfSome, min, option_map, string_bytes}
use Rattle.attributes.specs.Conn.{conn_view}
use Rattle.proxy_core.specs.Events.{ads_lost, ads_up}
use Rattle.serve_log.specs.Files.{AddsToAll}
use Rattle.serve_log.specs.Recording.{Begins, Ends, Feeds, Receives, connection_at}
use Rattle.serve_log.specs.declared.connection.Connection.{Connection}
use Rattle.serve_log.specs.declared.open_files.OpenFiles.{OpenFiles}
use Rattle.serve_loop.specs.History.{accepted, connected, received, closed, drain}
use Rattle.serve_loop.specs.declared.stream.Stream.TheVariants.{Place, Updates}
use Rattle.serve_core.specs.Served.{served_core}
use Rattle.serve_core.specs.Turns.{ServerEvent}
use Rattle.serve_core.specs.declared.front_answer.ClientRequest.{ClientRequest}
use Rattle.serve_core.specs.declared.front_answer.FrontAnswer.{FrontAnswer}
use Rattle.serve_core.specs.declared.front_answer.FrontAnswer.TheVariants.{Judged, Unjudged}
use Rattle.serve_core.specs.declared.served.Served.{Served}
use Rattle.serve_core.specs.declared.served.Served.TheVariants.{AsSent, Mapped}
use Rattle.serve_observe.specs.Entries.{Says, event_in, recorded}
use Rattle.serve_observe.specs.declared.record.Entry.{Entry}
use Rattle.serve_observe.specs.declared.record.Entry.TheVariants as entries

-- the files of the record get the events of the entry. Each open file gets those of the update stream, and the file of
-- a connection those of the connection
abbrev pub Records : {W : Type 0} → (W → Option (List ℕ)) → Entry → (connections kept : List (Option Connection))
    → (old new : OpenFiles W) → Type 0
Records contents (entries.Opened k number conn) connections kept old new =
    Begins contents number (conn_view conn.now) (connection_at k kept) old new
Records contents (entries.Received k bytes is_fresh) connections kept old new =
    Receives contents bytes.now is_fresh (connection_at k connections) (connection_at k kept) old new
Records contents (entries.Closed k) connections kept old new = Ends contents (connection_at k connections) old new
Records contents entries.Up connections kept old new = AddsToAll contents (ads_up ∷ []) old new
Records contents (entries.Fed bytes outcome) connections kept old new = Feeds contents bytes.now old new
Records contents entries.Lost connections kept old new = AddsToAll contents (ads_lost ∷ []) old new

-- the connections that the record has, by place, and its files
abbrev pub Recorded : Type 0 → Type 0
Recorded W = List (Option Connection) × OpenFiles W

-- the number of the next connection, the connections that the record has, and its files
abbrev pub Numbered : Type 0 → Type 0
Numbered W = ℕ × Recorded W

-- the number after this one, which stops at the greatest of 64 bits
abbrev pub next_number : ℕ → ℕ
next_number n = min (n + 1) (2 ^ 64 - 1)

-- the number of the next connection after an event; one that opens takes a number, unless memory ran out
abbrev pub next_after : Bool → ServerEvent → ℕ → ℕ
next_after true (accepted k conn) n = next_number n
next_after false (accepted k conn) n = n
next_after is_taken connected n = n
next_after is_taken (received s bytes) n = n
next_after is_taken (closed s) n = n
next_after is_taken drain n = n

module _ {W : Type 0} (contents : W → Option (List ℕ)) where
  -- the record gets an entry, if there is one
  abbrev pub RecordsOne : Option Entry → Recorded W → Recorded W → Type 0
  RecordsOne None old new = new ≡ old
  RecordsOne (Some entry) old new = Records contents entry old.0 new.0 old.1 new.1

  -- the record gets what is recorded of an event itself, in which a connection that opens has this number
  pub record RecordsOwn (service : Served) (is_taken : Bool) (e : ServerEvent) (n : ℕ) (old new : Recorded W) : Type 0 where
    pub entry : Option Entry
    pub event : option_map event_in entry ≡ recorded service is_taken e
    pub says : IfSome entry (Says (served_core service) n)
    pub records : RecordsOne entry old new

  -- the record gets a client's request as a connection of its own. It opens in this place, with this number and the
  -- facts, delivers the head and is closed
  pub record RecordsRequest (k n : ℕ) (request : ClientRequest) (old new : Recorded W) : Type 0 where
    pub opened : Recorded W
    pub received : Recorded W
    pub opens : Begins contents n (conn_view request.conn) (connection_at k opened.0) old.1 opened.1
    pub receives : Receives contents (string_bytes request.head) true (connection_at k opened.0) (connection_at k received.0)
        opened.1 received.1
    pub ends : Ends contents (connection_at k received.0) received.1 new.1

  -- the record gets a client's request, which takes the next number
  abbrev pub RecordsClient : ℕ → ClientRequest → Numbered W → Numbered W → Type 0
  RecordsClient k request old new =
      RecordsRequest k old.0 request old.1 new.1 × (new.0 ≡ next_number old.0)

  -- the record gets the client's request that was judged, if one was
  abbrev pub RecordsAnswer : ℕ → FrontAnswer → Numbered W → Numbered W → Type 0
  RecordsAnswer k (Judged request) old new = RecordsClient k request old new
  RecordsAnswer k (Unjudged unjudged reply) old new = new ≡ old

  -- the record gets each client's request that was judged, in order
  abbrev pub RecordsClients : ℕ → List FrontAnswer → Numbered W → Numbered W → Type 0
  RecordsClients k [] old new = new ≡ old
  RecordsClients k (answer ∷ answers) old new =
      (between : Numbered W) × RecordsAnswer k answer old between × RecordsClients k answers between new

  -- what the record gets of the answers to bytes from this place: of a front its clients' requests, else nothing more
  abbrev pub RecordsAnswers : ℕ → Served → Numbered W → Numbered W → Type 0
  RecordsAnswers k (AsSent core) old new = new ≡ old
  RecordsAnswers k (Mapped mapped) old new = RecordsClients k mapped.fronts.answers.items old new

  -- what the record gets of the answers at an event
  abbrev pub RecordsAnswered : Served → ServerEvent → Numbered W → Numbered W → Type 0
  RecordsAnswered service (received (Place k) bytes) old new = RecordsAnswers k service old new
  RecordsAnswered service (received Updates bytes) old new = new ≡ old
  RecordsAnswered service (accepted k conn) old new = new ≡ old
  RecordsAnswered service connected old new = new ≡ old
  RecordsAnswered service (closed s) old new = new ≡ old
  RecordsAnswered service drain old new = new ≡ old

  -- the record gets what is recorded of an event, and then of the answers at it
  pub record RecordsEvent (service : Served) (is_taken : Bool) (e : ServerEvent) (old new : Numbered W) : Type 0 where
    pub between : Recorded W
    pub own : RecordsOwn service is_taken e old.0 old.1 between
    pub answers : RecordsAnswered service e (next_after is_taken e old.0, between) new
