-- The outputs of a proxy are those of a history.
use Rattle.std.proofs.Common.{◌≡◌, ℕ, ◌==◌, not, Bool, true, false, true≢false, Option, Some, None, List, [], ◌∷◌, ◌++◌, length, map, reverse, refl, sym, ap, subst, ◌∙◌, append_assoc, append-nil, if◌then◌else◌, length-set}
use Rattle.std.specs.Prelude.{is_none}
use Rattle.std.proofs.lemmas.Bool.{eqb-true, eq-eqb, lt-ltb, le-ltb}
use Rattle.std.proofs.lemmas.Grind.{reverse_onto}
use Rattle.attributes.specs.Conn.{Facts}
use Rattle.xds_wire.specs.Frames.{Cut, Tail, unfinished, broken, nothing}
use Rattle.xds_wire.proofs.StreamLemmas.{cut_resumes}
use Rattle.ads.specs.Config.{ConfigValue}
use Rattle.ads.specs.Answer.{first_request}
use Rattle.ads.specs.Client.{AreAnswered, ClientValue, FeedsBy, IsFrameThen, most_bytes, stream_after, stream_down, stream_up}
use Rattle.http_front.specs.Front.{FrontValue, new_front}
use Rattle.http_front.specs.Heads.{Heads, TakesAll, is_closed, reading}
use Rattle.http_front.specs.declared.ask.Ask.{Ask}
use Rattle.http_front.proofs.Resuming.{takes_resume}
use Rattle.proxy_core.specs.Events.{EventValue, ads_up, ads_bytes, ads_lost, http_open, http_bytes, http_closed, OutputValue, no_output, ads_output, http_output}
use Rattle.proxy_core.specs.Step.{CallsDo, EventCall, answered, no_memory, CompletesAsks, OpensAt, in_place, nowhere, opened, unfit, ProxyValue, StepsBy, TakesAds, TakesHttp, events_of, outputs_of, front_at, new_proxy, with_client, with_conn}
use Rattle.proxy_core.specs.Run as run
use Rattle.proxy_core.specs.Run.{Acknowledged, AreExchanges, Connection, Exchange, Happens, IsHistory, Moment, UpdateStream, acknowledged_after, acknowledged_in, connection_in, connection_more, connection_then, events_in, is_of, outputs_in, places, stream_in, stream_more}
use Rattle.proxy_core.proofs.Chains.{replies_stand}
use Rattle.proxy_core.proofs.Places.{none_there, past_none, set_same, set_none, set_other, within}
use Rattle.proxy_core.proofs.Standing.{StandsFor, none_stands}
use Rattle.proxy_core.proofs.Walk.{Left, all_read, one_faulty, after_append, exchanges_append, goes_on, walked}

-- ---- what is known of a proxy behind its past

-- the stream that is up was answered whole
abbrev pub StreamKnown : ConfigValue → Option UpdateStream → Option (List ℕ) → Acknowledged → Type 0
StreamKnown c None None now = Unit {0}
StreamKnown c None (Some rest) now = ⊥
StreamKnown c (Some s) None now = ⊥
StreamKnown c (Some s) (Some rest) now = (messages : List (List ℕ))
    × Cut s.bytes most_bytes messages (unfinished rest)
    × AreExchanges c (acknowledged_in c s.before) messages s.exchanges
    × (now ≡ acknowledged_after (acknowledged_in c s.before) s.exchanges)

pub record FrontKnown (c : ConfigValue) (s : Connection) (f : FrontValue) : Type 0 where
  pub limits : f.limits ≡ c.limits
  pub facts : f.facts ≡ s.facts
  pub asks : TakesAll c.limits s.facts (reading 0 s.bytes) s.asks f.kept

-- the front of a connection kept what is behind all asks
abbrev pub ConnectionKnown : ConfigValue → Option Connection → Option FrontValue → Type 0
ConnectionKnown c None None = Unit {0}
ConnectionKnown c None (Some f) = ⊥
ConnectionKnown c (Some s) None = ⊥
ConnectionKnown c (Some s) (Some f) = FrontKnown c s f

pub record Known (c : ConfigValue) (past : List Moment) (p : ProxyValue) : Type 0 where
  pub config : p.client.config ≡ c
  pub accepted : StandsFor c.limits p.client.accepted (acknowledged_in c past)
  pub stream : StreamKnown c (stream_in past) p.client.stream (acknowledged_in c past)
  pub eight : length p.conns ≡ places
  pub conns : (k : ℕ) → ConnectionKnown c (connection_in k past) (front_at p k)

abbrev moment : EventValue → OutputValue → List Exchange → List Ask → Moment
moment event output exchanges asks =
    record { event = event; output = output; exchanges = exchanges; asks = asks }

-- what one event adds
pub record Added (c : ConfigValue) (past : List Moment) (event : EventValue) (output : OutputValue) (p : ProxyValue)
    : Type 0 where
  pub exchanges : List Exchange
  pub asks : List Ask
  pub happens : Happens c past (moment event output exchanges asks) event
  pub known : Known c (moment event output exchanges asks ∷ past) p

-- ---- the update stream

cut_none : Cut [] most_bytes [] (unfinished [])
cut_none = record { rest = []; whole = refl; allowed = tt; ends = (refl, nothing refl) }

added_up : (c : ConfigValue) (past : List Moment) (old : ProxyValue) (bytes : List ℕ) → Known c past old
    → IsFrameThen (first_request old.client.config old.client.accepted) bytes []
    → Added c past ads_up (ads_output bytes false) (with_client old (stream_up old.client))
added_up c past old bytes k frame = record {
  exchanges = [];
  asks = [];
  happens = (bytes, rw (k.config, k.accepted.version) at frame, (refl, refl, refl));
  known = record {
    config = k.config;
    accepted = k.accepted;
    stream = ([], cut_none, refl, refl);
    eight = k.eight;
    conns = k.conns;
  };
}

added_lost : (c : ConfigValue) (past : List Moment) (old : ProxyValue) → Known c past old
    → Added c past ads_lost no_output (with_client old (stream_down old.client))
added_lost c past old k = record {
  exchanges = [];
  asks = [];
  happens = (refl, refl, refl);
  known = record {
    config = k.config;
    accepted = k.accepted;
    stream = tt;
    eight = k.eight;
    conns = k.conns;
  };
}

-- the stream behind further bytes
stream_behind : (c : ConfigValue) (s : UpdateStream) (bytes : List ℕ) (exchanges : List Exchange)
    (messages others : List (List ℕ)) (tail : Tail) (ends : Bool) (now : Acknowledged)
    → Cut (s.bytes ++ bytes) most_bytes (messages ++ others) tail
    → AreExchanges c (acknowledged_in c s.before) messages (s.exchanges ++ exchanges)
    → now ≡ acknowledged_after (acknowledged_in c s.before) (s.exchanges ++ exchanges) → Left others ends
    → StreamKnown c (if is_none (stream_after ends tail) then None else Some (stream_more bytes exchanges s))
    (stream_after ends tail) now
stream_behind c s bytes exchanges messages others (unfinished rest) false now cut all is (all_read none goes) =
    (messages, rw (none, append-nil messages) at cut, all, is)
stream_behind c s bytes exchanges messages others (broken fault) false now cut all is (all_read none goes) = tt
stream_behind c s bytes exchanges messages others tail true now cut all is left = tt
stream_behind c s bytes exchanges messages others tail false now cut all is (one_faulty m more e those fault stops) =
    absurd (true≢false (sym stops))

added_more : (c : ConfigValue) (past : List Moment) (old : ProxyValue) (client : ClientValue) (s : UpdateStream)
    (messages others : List (List ℕ)) (tail : Tail) (ends : Bool) (exchanges : List Exchange) (bytes replies : List ℕ)
    → Known c past old → stream_in past ≡ Some s → Cut (s.bytes ++ bytes) most_bytes (messages ++ others) tail
    → AreExchanges c (acknowledged_in c s.before) messages (s.exchanges ++ exchanges)
    → acknowledged_after (acknowledged_in c past) exchanges
    ≡ acknowledged_after (acknowledged_in c s.before) (s.exchanges ++ exchanges)
    → StandsFor c.limits client.accepted (acknowledged_after (acknowledged_in c past) exchanges)
    → run.AreSent exchanges replies → Left others ends
    → client.stream ≡ stream_after ends tail → client.config ≡ c
    → Added c past (ads_bytes bytes) (ads_output replies (is_none (stream_after ends tail))) (with_client old client)
added_more c past old client s messages others tail ends exchanges bytes replies k some whole all after stands sent left up
    config = record {
      exchanges = exchanges;
      asks = [];
      happens = rw some (
        replies,
        is_none (stream_after ends tail),
        record {
          messages = messages;
          others = others;
          tail = tail;
          cut = whole;
          answered = all;
          goes_on = goes_on others tail ends left;
        },
        sent,
        refl,
        refl,
      );
      known = record {
        config = config;
        accepted = stands;
        stream = rw (some, up) (stream_behind c s bytes exchanges messages others tail ends
            (acknowledged_after (acknowledged_in c past) exchanges) whole all after left);
        eight = k.eight;
        conns = k.conns;
      };
    }

added_bytes : (s : Option UpdateStream) (r : Option (List ℕ)) (c : ConfigValue) (past : List Moment) (old : ProxyValue)
    (bytes : List ℕ) (out : OutputValue) (new : ProxyValue) → Known c past old
    → stream_in past ≡ s → old.client.stream ≡ r → StreamKnown c s r (acknowledged_in c past)
    → TakesAds r old bytes out new → Added c past (ads_bytes bytes) out new
added_bytes None None c past old bytes out new k none down known (is, same) = rw (is, same) (record {
  exchanges = [];
  asks = [];
  happens = rw none (refl, refl, refl);
  known = record {
    config = k.config;
    accepted = k.accepted;
    stream = rw (none, down) tt;
    eight = k.eight;
    conns = k.conns;
  };
})
added_bytes None (Some rest) c past old bytes out new k none up known gives = absurd known
added_bytes (Some s) None c past old bytes out new k some down known gives = absurd known
added_bytes (Some s) (Some rest) c past old bytes out new k some up (messages, cut, all, after)
    (replies, is_broken, versions, client, feeds, is, same) =
    let (fed', reported) = subst (λ o. FeedsBy o old.client bytes replies is_broken versions client) up feeds in
    let w = walked fed'.messages c old.client.accepted replies versions client.accepted fed'.ends (acknowledged_in c past)
    (subst (λ d. AreAnswered d old.client.accepted fed'.messages replies versions client.accepted fed'.ends) k.config
    fed'.answered) k.accepted in
    let whole : Cut (s.bytes ++ bytes) most_bytes ((messages ++ w.read) ++ w.others) fed'.tail =
    rw (append_assoc messages w.read w.others, ← w.whole)
    (cut_resumes s.bytes bytes most_bytes messages fed'.messages (unfinished rest) fed'.tail cut fed'.cut) in
    let from : AreExchanges c (acknowledged_after (acknowledged_in c s.before) s.exchanges) w.read w.exchanges =
    subst (λ a. AreExchanges c a w.read w.exchanges) after w.are in
    let both = exchanges_append c (acknowledged_in c s.before) messages w.read s.exchanges w.exchanges all from in
    let now : acknowledged_after (acknowledged_in c past) w.exchanges
    ≡ acknowledged_after (acknowledged_in c s.before) (s.exchanges ++ w.exchanges) =
    ap (λ (a : Acknowledged). acknowledged_after a w.exchanges) after
    ∙ sym (after_append (acknowledged_in c s.before) s.exchanges w.exchanges) in
    rw (is, same) (subst (λ b. Added c past (ads_bytes bytes) (ads_output replies b) (with_client old client))
    (sym (reported ∙ ap is_none fed'.stream)) (added_more c past old client s (messages ++ w.read) w.others fed'.tail fed'.ends
    w.exchanges bytes replies k some whole both now w.stands w.sent w.left fed'.stream (fed'.config ∙ k.config)))

-- ---- connections

-- what an event of one number leaves known of all
conns_known : (c : ConfigValue) (past : List Moment) (old new : ProxyValue) (m : Moment) (k : ℕ)
    → ((j : ℕ) → ConnectionKnown c (connection_in j past) (front_at old j))
    → ((j : ℕ) → is_of j m.event ≡ (k == j))
    → ((j : ℕ) → (k ≡ j → ⊥) → front_at new j ≡ front_at old j)
    → ConnectionKnown c (connection_then m (connection_in k past) m.event) (front_at new k)
    → (j : ℕ) → ConnectionKnown c (connection_in j (m ∷ past)) (front_at new j)
conns_known c past old new m k known at others here j = by (k == j) refl
  where
    by : (b : Bool) → (k == j) ≡ b → ConnectionKnown c (connection_in j (m ∷ past)) (front_at new j)
    by true is =
        let same : k ≡ j = eqb-true k j is in
        rw (at j, is) (subst (λ n. ConnectionKnown c (connection_then m (connection_in n past) m.event) (front_at new n)) same here)
    by false is =
        let other : k ≡ j → ⊥ = λ same. true≢false (sym (eq-eqb k j same) ∙ is) in
        rw (at j, is, others j other) (known j)

-- a connection is put into a place
module _ (c : ConfigValue) (past : List Moment) (old : ProxyValue) (event : EventValue) (output : OutputValue)
    (asks : List Ask) (k : ℕ) (conn : Option FrontValue) (known : Known c past old) where
  abbrev now : Moment
  now = moment event output [] asks

  abbrev placed : ProxyValue
  placed = with_conn old k conn

  put : stream_in (now ∷ past) ≡ stream_in past → ((j : ℕ) → is_of j event ≡ (k == j))
      → ConnectionKnown c (connection_then now (connection_in k past) event) (front_at placed k)
      → Known c (now ∷ past) placed
  put stream at here = record {
    config = known.config;
    accepted = known.accepted;
    stream = rw stream known.stream;
    eight = length-set old.conns k conn ∙ known.eight;
    conns = conns_known c past old placed now k known.conns at (λ j other. set_other old.conns k j conn other) here;
  }

added_closed : (c : ConfigValue) (past : List Moment) (old : ProxyValue) (k : ℕ) → Known c past old
    → Added c past (http_closed k) no_output (with_conn old k None)
added_closed c past old k known = record {
  exchanges = [];
  asks = [];
  happens = (refl, refl, refl);
  known = put c past old (http_closed k) no_output [] k None known refl (λ j. refl) (rw (set_none old.conns k) tt);
}

added_opens : (c : ConfigValue) (past : List Moment) (old : ProxyValue) (k : ℕ) (facts : Facts) (out : OutputValue)
    (new : ProxyValue) → Known c past old → OpensAt old k facts out new → Added c past (http_open k facts) out new
added_opens c past old k facts out new known (in_place front in' (opened sound fits which) is made) =
    rw (is ∙ ap (λ (o : Option FrontValue). http_output [] (is_none o)) which, made ∙ ap (with_conn old k) which) (record {
      exchanges = [];
      asks = [];
      happens = (no_output, run.fits (rw known.eight at in') sound (rw known.config at fits) refl, (refl, refl, refl));
      known = put c past old (http_open k facts) no_output [] k (Some (new_front old.client.config.limits facts)) known refl
          (λ j. refl)
          (rw (
            set_same old.conns k (Some (new_front old.client.config.limits facts)) in',
            lt-ltb k places (rw known.eight at in'),
          ) (record {
            limits = ap (λ (d : ConfigValue). d.limits) known.config;
            facts = refl;
            asks = refl;
          }));
    })
added_opens c past old k facts out new known (in_place front in' (unfit not which) is made) =
    rw (is ∙ ap (λ (o : Option FrontValue). http_output [] (is_none o)) which, made ∙ ap (with_conn old k) which) (record {
      exchanges = [];
      asks = [];
      happens = (http_output [] true, run.unfit (rw known.eight at in') (rw known.config at not) refl, (refl, refl, refl));
      known = put c past old (http_open k facts) (http_output [] true) [] k None known refl (λ j. refl)
          (rw (set_none old.conns k, lt-ltb k places (rw known.eight at in')) tt);
    })
added_opens c past old k facts out new known (nowhere far is made) = rw (is, made) (record {
  exchanges = [];
  asks = [];
  happens = (no_output, run.nowhere (rw known.eight at far) refl, (refl, refl, refl));
  known = record {
    config = known.config;
    accepted = known.accepted;
    stream = known.stream;
    eight = known.eight;
    conns = conns_known c past old old (moment (http_open k facts) no_output [] []) k known.conns (λ j. refl)
        (λ j other. refl) (rw (le-ltb k places (rw known.eight at far), past_none old.conns k far) tt);
  };
})

-- bytes of a connection
front_behind : (c : ConfigValue) (s : Connection) (f after : FrontValue) (bytes : List ℕ) (asks : List Ask)
    → FrontKnown c s f → CompletesAsks f bytes asks after
    → Heads c.limits s.facts (s.bytes ++ bytes) (s.asks ++ asks) (is_closed after.kept)
    × FrontKnown c (connection_more bytes asks s) after
front_behind c s f after bytes asks known (takes, rests, is) =
    let limits : after.limits ≡ c.limits = ap (λ (g : FrontValue). g.limits) is ∙ known.limits in
    let facts : after.facts ≡ s.facts = ap (λ (g : FrontValue). g.facts) is ∙ known.facts in
    let all = takes_resume c.limits s.facts s.bytes bytes s.asks asks f.kept after.kept known.asks
    (rw (known.limits, known.facts) at takes) in (
      (after.kept, all, rw (limits, facts) at rests, refl),
      record { limits = limits; facts = facts; asks = all },
    )

connection_behind : (c : ConfigValue) (s : Connection) (after : FrontValue) (b : Bool) → FrontKnown c s after
    → ConnectionKnown c (if b then None else Some s) (if b then None else Some after)
connection_behind c s after true known = tt
connection_behind c s after false known = known

none_if : (b : Bool) (f : FrontValue) → is_none (if b then None else Some f) ≡ b
none_if true f = refl
none_if false f = refl

added_http : (s : Option Connection) (f : Option FrontValue) (c : ConfigValue) (past : List Moment) (old : ProxyValue)
    (k : ℕ) (bytes : List ℕ) (out : OutputValue) (new : ProxyValue) → Known c past old
    → connection_in k past ≡ s → front_at old k ≡ f → ConnectionKnown c s f
    → TakesHttp f old k bytes out new → Added c past (http_bytes k bytes) out new
added_http None None c past old k bytes out new known none shut is (reported, same) = rw (reported, same) (record {
  exchanges = [];
  asks = [];
  happens = rw none (refl, refl, refl);
  known = record {
    config = known.config;
    accepted = known.accepted;
    stream = known.stream;
    eight = known.eight;
    conns = conns_known c past old old (moment (http_bytes k bytes) no_output [] []) k known.conns (λ j. refl)
        (λ j other. refl) (rw (none, shut) tt);
  };
})
added_http None (Some f) c past old k bytes out new known none up is gives = absurd is
added_http (Some s) None c past old k bytes out new known some shut is gives = absurd is
added_http (Some s) (Some f) c past old k bytes out new known some up is
    (http, left, (asks, after, completes, answers, which), reported, made) =
    let (whole, front) = front_behind c s f after bytes asks is completes in
    let conn : Option FrontValue = if is_closed after.kept then None else Some after in
    let reported' : out ≡ http_output http (is_closed after.kept) =
    reported ∙ ap (λ (o : Option FrontValue). http_output http (is_none o)) which
    ∙ ap (http_output http) (none_if (is_closed after.kept) after) in
    rw (reported', made ∙ ap (with_conn old k) which) (record {
      exchanges = [];
      asks = asks;
      happens = rw some (
        http,
        is_closed after.kept,
        whole,
        replies_stand c.limits old.client.accepted (acknowledged_in c past) asks http known.accepted answers,
        refl,
        refl,
      );
      known = put c past old (http_bytes k bytes) (http_output http (is_closed after.kept)) asks k conn known refl
          (λ j. refl)
          (rw (set_same old.conns k conn (within old.conns k f up), some)
          (connection_behind c (connection_more bytes asks s) after (is_closed after.kept) front));
    })

-- ---- all events

added : (event : EventValue) (c : ConfigValue) (past : List Moment) (old : ProxyValue) (out : OutputValue)
    (new : ProxyValue) → Known c past old → StepsBy old event out new → Added c past event out new
added ads_up c past old out new known (bytes, frame, reported, made) = rw (reported, made) (added_up c past old bytes known frame)
added (ads_bytes bytes) c past old out new known gives =
    added_bytes (stream_in past) old.client.stream c past old bytes out new known refl refl known.stream gives
added ads_lost c past old out new known (reported, made) = rw (reported, made) (added_lost c past old known)
added (http_open k facts) c past old out new known opens = added_opens c past old k facts out new known opens
added (http_bytes k bytes) c past old out new known gives =
    added_http (connection_in k past) (front_at old k) c past old k bytes out new known refl refl (known.conns k) gives
added (http_closed k) c past old out new known (reported, made) = rw (reported, made) (added_closed c past old k known)

-- the history of calls
pub record Followed (c : ConfigValue) (past : List Moment) (calls : List EventCall) : Type 0 where
  pub history : List Moment
  pub happened : IsHistory c history
  pub of_events : events_in past ++ events_of calls ≡ events_in history
  pub of_outputs : outputs_in past ++ outputs_of calls ≡ outputs_in history

-- one more in front is one more behind
onto : {A : Type 0} (x : A) (xs ys : List A) → reverse (x ∷ xs) ++ ys ≡ reverse xs ++ x ∷ ys
onto x xs ys = ap (λ zs. zs ++ ys) (reverse_onto xs x []) ∙ append_assoc (reverse xs) (x ∷ []) ys

followed : (calls : List EventCall) (c : ConfigValue) (past : List Moment) (old end : ProxyValue) → Known c past old
    → IsHistory c past → CallsDo old calls end → Followed c past calls
followed [] c past old end known is same = record {
  history = past;
  happened = is;
  of_events = append-nil (events_in past);
  of_outputs = append-nil (outputs_in past);
}
followed (no_memory event ∷ calls) c past old end known is (next, same, others) =
    let all = followed calls c past next end (rw same known) is others in record {
      history = all.history;
      happened = all.happened;
      of_events = all.of_events;
      of_outputs = all.of_outputs;
    }
followed (answered event out ∷ calls) c past old end known is (next, steps, others) =
    let a = added event c past old out next known steps in
    let m = moment event out a.exchanges a.asks in
    let all = followed calls c (m ∷ past) next end a.known (a.happens, is) others in record {
      history = all.history;
      happened = all.happened;
      of_events = sym (onto event (map (λ m. m.event) past) (events_of calls)) ∙ all.of_events;
      of_outputs = sym (onto out (map (λ m. m.output) past) (outputs_of calls)) ∙ all.of_outputs;
    }

start : (c : ConfigValue) → Known c [] (new_proxy c)
start c = record {
  config = refl;
  accepted = none_stands c;
  stream = tt;
  eight = refl;
  conns = λ k. rw (none_there places k) tt;
}

pub runs : (c : ConfigValue) (calls : List EventCall) (end : ProxyValue) → CallsDo (new_proxy c) calls end
    → Followed c [] calls
runs c calls end all = followed calls c [] (new_proxy c) end (start c) tt all
