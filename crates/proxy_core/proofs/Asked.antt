-- Each request that is asked is one within the limits.
use Rattle.std.proofs.Common.{◌≡◌, ℕ, ◌&&◌, nat_lt, not, Bool, true, false, Option, Some, None, List, [], ◌∷◌, ◌++◌, option_map, if◌then◌else◌}
use Rattle.std.specs.Prelude.{IfSome}
use Rattle.std.specs.List.{AllByRecursion}
use Rattle.std.proofs.lemmas.Bool.{le-ltb}
use Rattle.attributes.specs.Conn.{AreFacts, Facts}
use Rattle.attributes.specs.Limits.{LimitsValue}
use Rattle.ads.specs.Config.{ConfigValue}
use Rattle.http_front.specs.Heads.{Kept, TakesAll, reading}
use Rattle.http_front.specs.declared.ask.Ask.{Ask}
use Rattle.http_front.specs.declared.ask.Ask.TheVariants.{Judge, Fault}
use Rattle.http_front.proofs.Requests.{judge_is_request}
use Rattle.http_front.proofs.Resuming.{judge_in_limits}
use Rattle.proxy_core.specs.Events.{EventValue, ads_up, ads_bytes, ads_lost, http_open, http_bytes, http_closed, OutputValue}
use Rattle.proxy_core.specs.Headline.{AsksWithin, EachMoment}
use Rattle.proxy_core.specs.Run.{Connection, GivesConnection, GivesStream, Happens, IsHistory, Moment, Opens, fits, unfit, nowhere, UpdateStream, connection_in, connection_more, connection_then, is_of, places, stream_in}

-- ---- the facts of connections

-- if there is a connection, its facts are facts
abbrev HasFacts : Option Connection → Type 0
HasFacts s = IfSome s (λ it. AreFacts it.facts)

-- a connection of which nothing has come
abbrev new_connection : Facts → Connection
new_connection facts = record { facts = facts; bytes = []; asks = [] }

opened : (limits : LimitsValue) (k : ℕ) (facts : Facts) (output : OutputValue) (m : Moment) → Opens limits k facts output
    → m.output ≡ output
    → HasFacts (if nat_lt k places && not m.output.http_close then Some (new_connection facts) else None)
opened limits k facts output m (fits in' sound within is) reported = by (nat_lt k places && not m.output.http_close)
  where
    by : (b : Bool) → HasFacts (if b then Some (new_connection facts) else None)
    by true = sound
    by false = tt
opened limits k facts output m (unfit in' not is) reported = rw (reported, is) (by (nat_lt k places))
  where
    by : (b : Bool) → HasFacts (if b && false then Some (new_connection facts) else None)
    by true = tt
    by false = tt
opened limits k facts output m (nowhere far is) reported = rw (le-ltb k places far) tt

facts_then : (event : EventValue) (c : ConfigValue) (past : List Moment) (m : Moment) (k : ℕ) → Happens c past m event
    → HasFacts (connection_in k past) → HasFacts (connection_then m (connection_in k past) event)
facts_then ads_up c past m k happens old = old
facts_then (ads_bytes bytes) c past m k happens old = old
facts_then ads_lost c past m k happens old = old
facts_then (http_open j facts) c past m k (output, opens, (is, none, asks)) old = opened c.limits j facts output m opens is
facts_then (http_bytes j bytes) c past m k happens old = by m.output.http_close (connection_in k past) old
  where
    by : (b : Bool) (s : Option Connection) → HasFacts s
        → HasFacts (if b then None else option_map (connection_more bytes m.asks) s)
    by true s had = tt
    by false None had = tt
    by false (Some s) had = had
facts_then (http_closed j) c past m k happens old = tt

have_facts : (c : ConfigValue) (k : ℕ) (past : List Moment) → IsHistory c past → HasFacts (connection_in k past)
have_facts c k [] is = tt
have_facts c k (m ∷ past) (happens, is) = by (is_of k m.event) (have_facts c k past is)
  where
    by : (b : Bool) → HasFacts (connection_in k past)
        → HasFacts (if b then connection_then m (connection_in k past) m.event else connection_in k past)
    by true old = facts_then m.event c past m k happens old
    by false old = old

-- ---- asks

module _ (limits : LimitsValue) (facts : Facts) (sound : AreFacts facts) where
  asks_within : (asks : List Ask) (old end : Kept) → TakesAll limits facts old asks end
      → AllByRecursion (AsksWithin limits) asks
  asks_within [] old end all = tt
  asks_within (Judge r close ∷ asks) old end (next, first, all) = (
    (
      judge_is_request limits facts old next r close first sound,
      judge_in_limits limits facts old next r close first,
    ),
    asks_within asks next end all,
  )
  asks_within (Fault fault ∷ asks) old end (next, first, all) = (tt, asks_within asks next end all)

last_of_all : {A : Type 0} (P : A → Type 0) (xs ys : List A) → AllByRecursion P (xs ++ ys) → AllByRecursion P ys
last_of_all P [] ys all = all
last_of_all P (x ∷ xs) ys (one, all) = last_of_all P xs ys all

-- what is asked at a moment is within the limits
abbrev Within : ConfigValue → Moment → Type 0
Within c m = AllByRecursion (AsksWithin c.limits) m.asks

of_stream : (c : ConfigValue) (past : List Moment) (m : Moment) (s : Option UpdateStream) (bytes : List ℕ)
    → GivesStream c past m bytes s → Within c m
of_stream c past m None bytes (is, none, asks) = rw asks tt
of_stream c past m (Some s) bytes (replies, is_broken, stream, sent, is, asks) = rw asks tt

of_connection : (c : ConfigValue) (past : List Moment) (m : Moment) (s : Option Connection) (bytes : List ℕ) → HasFacts s
    → GivesConnection c past m bytes s → Within c m
of_connection c past m None bytes sound (is, none, asks) = rw asks tt
of_connection c past m (Some s) bytes sound (answers, is_done, (end, taken, rests, done), replies, is, none) =
    last_of_all (AsksWithin c.limits) s.asks m.asks
    (asks_within c.limits s.facts sound (s.asks ++ m.asks) (reading 0 (s.bytes ++ bytes)) end taken)

one_asked : (event : EventValue) (c : ConfigValue) (past : List Moment) (m : Moment) → IsHistory c past
    → Happens c past m event → Within c m
one_asked ads_up c past m before (bytes, frame, (is, none, asks)) = rw asks tt
one_asked (ads_bytes bytes) c past m before gives = of_stream c past m (stream_in past) bytes gives
one_asked ads_lost c past m before (is, none, asks) = rw asks tt
one_asked (http_open k facts) c past m before (output, opens, (is, none, asks)) = rw asks tt
one_asked (http_bytes k bytes) c past m before gives =
    of_connection c past m (connection_in k past) bytes (have_facts c k past before) gives
one_asked (http_closed k) c past m before (is, none, asks) = rw asks tt

pub asked : (c : ConfigValue) (past : List Moment) → IsHistory c past
    → EachMoment (λ before m. AllByRecursion (AsksWithin c.limits) m.asks) past
asked c [] is = tt
asked c (m ∷ past) (happens, is) = (one_asked m.event c past m is happens, asked c past is)
