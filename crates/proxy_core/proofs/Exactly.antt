-- In a history responses are acknowledged exactly where they are admissible.
use Rattle.std.proofs.Common.{◌≡◌, ℕ, Bool, true, false, Option, Some, None, List, [], ◌∷◌, option_map, sym, ap, subst, ◌∙◌, if◌then◌else◌}
use Rattle.proto_wire.specs.declared.refusal.Refusal.{Refusal}
use Rattle.attributes.specs.Limits.{LimitsValue}
use Rattle.xds_wire.specs.Discovery.{ResponseMessage}
use Rattle.rbac_policy.specs.Admission.{Admissible}
use Rattle.ads.specs.Config.{ConfigValue, FilterValue}
use Rattle.ads.specs.Answer.{AcceptsAs, AnswersAs, Refuses, ack, nack, no_memory}
use Rattle.ads.proofs.Apart.{accepts_apart}
use Rattle.proxy_core.specs.Events.{EventValue, ads_up, ads_bytes, ads_lost, http_open, http_bytes, http_closed}
use Rattle.proxy_core.specs.Headline.{EachMoment, EachOf, IsAnsweredExactly, acknowledged, refused, out_of_memory}
use Rattle.proxy_core.specs.Run.{Acknowledged, AreExchanges, AreRules, Connection, Exchange, GivesConnection, GivesStream, Happens, IsHistory, Moment, Rules, UpdateStream, acknowledged_after, acknowledged_in, connection_in, stream_in, stream_more, stream_then}
use Rattle.proxy_core.proofs.Walk.{after_append, exchanges_behind}

-- what was acknowledged is that of the stream that is up
abbrev pub GoesOnFrom : ConfigValue → List Moment → Option UpdateStream → Type 0
GoesOnFrom c past None = Unit {0}
GoesOnFrom c past (Some s) =
    acknowledged_in c past ≡ acknowledged_after (acknowledged_in c s.before) s.exchanges

-- the exchanges of a moment go on from what was acknowledged before it
abbrev pub AreOf : ConfigValue → Acknowledged → List Exchange → Type 0
AreOf c old exchanges = (messages : List (List ℕ)) × AreExchanges c old messages exchanges

quiet : (c : ConfigValue) (past : List Moment) (m : Moment) (old : Option UpdateStream) → m.exchanges ≡ []
    → GoesOnFrom c past old → GoesOnFrom c (m ∷ past) old
quiet c past m None none goes = tt
quiet c past m (Some s) none goes =
    ap (λ (xs : List Exchange). acknowledged_after (acknowledged_in c past) xs) none ∙ goes

moment_of : (c : ConfigValue) (past : List Moment) (m : Moment) (s : Option UpdateStream) (bytes : List ℕ)
    → GoesOnFrom c past s → GivesStream c past m bytes s
    → AreOf c (acknowledged_in c past) m.exchanges
    × GoesOnFrom c (m ∷ past) (if m.output.ads_close then None else option_map (stream_more bytes m.exchanges) s)
moment_of c past m None bytes goes (is, none, asks) = (([], none), by m.output.ads_close)
  where
    by : (b : Bool) → GoesOnFrom c (m ∷ past) (if b then None else None)
    by true = tt
    by false = tt
moment_of c past m (Some s) bytes goes (replies, is_broken, stream, sent, is, none) =
    let behind = exchanges_behind c (acknowledged_in c s.before) stream.messages s.exchanges m.exchanges stream.answered in (
      (behind.0, subst (λ a. AreExchanges c a behind.0 m.exchanges) (sym goes) behind.1),
      by m.output.ads_close,
    )
  where
    by : (b : Bool) → GoesOnFrom c (m ∷ past) (if b then None else Some (stream_more bytes m.exchanges s))
    by true = tt
    by false = ap (λ (a : Acknowledged). acknowledged_after a m.exchanges) goes
        ∙ sym (after_append (acknowledged_in c s.before) s.exchanges m.exchanges)

pub connection_of : (c : ConfigValue) (past : List Moment) (m : Moment) (s : Option Connection) (bytes : List ℕ)
    → GivesConnection c past m bytes s → m.exchanges ≡ []
connection_of c past m None bytes (is, none, asks) = none
connection_of c past m (Some s) bytes (answers, is_done, heads, replies, is, none) = none

none_of : (c : ConfigValue) (past : List Moment) (m : Moment) (s : Option UpdateStream) → m.exchanges ≡ []
    → GoesOnFrom c past s → AreOf c (acknowledged_in c past) m.exchanges × GoesOnFrom c (m ∷ past) s
none_of c past m s none goes = (([], none), quiet c past m s none goes)

one_moment : (event : EventValue) (c : ConfigValue) (past : List Moment) (m : Moment)
    → GoesOnFrom c past (stream_in past) → Happens c past m event
    → AreOf c (acknowledged_in c past) m.exchanges
    × GoesOnFrom c (m ∷ past) (stream_then m past (stream_in past) event)
one_moment ads_up c past m goes (bytes, frame, (is, none, asks)) =
    (([], none), ap (λ (xs : List Exchange). acknowledged_after (acknowledged_in c past) xs) none)
one_moment (ads_bytes bytes) c past m goes gives = moment_of c past m (stream_in past) bytes goes gives
one_moment ads_lost c past m goes (is, none, asks) = (([], none), tt)
one_moment (http_open k facts) c past m goes (output, opens, (is, none, asks)) =
    none_of c past m (stream_in past) none goes
one_moment (http_bytes k bytes) c past m goes gives =
    none_of c past m (stream_in past) (connection_of c past m (connection_in k past) bytes gives) goes
one_moment (http_closed k) c past m goes (is, none, asks) = none_of c past m (stream_in past) none goes

-- the exchanges of each moment go on from what was acknowledged before it
abbrev pub AllGoOn : ConfigValue → List Moment → Type 0
AllGoOn c [] = Unit {0}
AllGoOn c (m ∷ past) = AreOf c (acknowledged_in c past) m.exchanges × AllGoOn c past

pub all_go_on : (c : ConfigValue) (past : List Moment) → IsHistory c past
    → GoesOnFrom c past (stream_in past) × AllGoOn c past
all_go_on c [] is = (tt, tt)
all_go_on c (m ∷ past) (happens, is) =
    let before = all_go_on c past is in
    let one = one_moment m.event c past m before.0 happens in
    (one.1, (one.0, before.1))

-- ---- exactly

-- the responses of a moment are answered exactly
abbrev pub Exact : ConfigValue → List Moment → Moment → Type 0
Exact c past m = EachOf (IsAnsweredExactly c) (acknowledged_in c past) m.exchanges

rules_admissible : (limits : LimitsValue) (f : FilterValue) (bytes : List ℕ) (rules : Rules) → AreRules limits f bytes rules
    → Admissible bytes limits f.budget
rules_admissible limits f bytes rules is = (rules, is)

-- a response that is admissible has no fault
pub written_apart : (c : ConfigValue) (response : ResponseMessage) (old new : Acknowledged) (e : Refusal)
    → AcceptsAs AreRules c response old new → Refuses c response e → ⊥
written_apart = accepts_apart AreRules rules_admissible

one_exactly : (c : ConfigValue) (old : Acknowledged) (x : Exchange)
    → AnswersAs AreRules c x.response old x.reply x.after → IsAnsweredExactly c old x
one_exactly c old x (ack accepts reported) =
    acknowledged reported accepts (λ e refuses. written_apart c x.response old x.after e accepts refuses)
one_exactly c old x (nack e refuses same reported) =
    refused e reported refuses (λ (before, after, accepts). written_apart c x.response before after e accepts refuses) same
one_exactly c old x (no_memory admitting same reported) = out_of_memory reported admitting same

exchanges_exactly : (c : ConfigValue) (old : Acknowledged) (messages : List (List ℕ)) (exchanges : List Exchange)
    → AreExchanges c old messages exchanges → EachOf (IsAnsweredExactly c) old exchanges
exchanges_exactly c old messages [] all = tt
exchanges_exactly c old [] (x ∷ exchanges) all = absurd cc
exchanges_exactly c old (message ∷ messages) (x ∷ exchanges) (reads, answers, all) =
    (one_exactly c old x answers, exchanges_exactly c x.after messages exchanges all)

go_exactly : (c : ConfigValue) (past : List Moment) → AllGoOn c past → EachMoment (Exact c) past
go_exactly c [] all = tt
go_exactly c (m ∷ past) ((messages, are), all) =
    (exchanges_exactly c (acknowledged_in c past) messages m.exchanges are, go_exactly c past all)

pub exactly : (c : ConfigValue) (past : List Moment) → IsHistory c past → EachMoment (Exact c) past
exactly c past is = go_exactly c past (all_go_on c past is).1
