-- The headline.
use Rattle.std.proofs.Common.{◌≡◌, ℕ, Option, Some, None, List, [], ◌∷◌, refl, ap, ◌∙◌}
use Rattle.attributes.specs.Conn.{Facts}
use Rattle.attributes.specs.Limits.{LimitsValue}
use Rattle.ads.specs.Config.{ConfigValue}
use Rattle.proxy_core.specs.Chain.{AreRepliesTo}
use Rattle.proxy_core.specs.Events.{EventValue, ads_up, ads_bytes, ads_lost, http_open, http_bytes, http_closed, OutputValue}
use Rattle.proxy_core.specs.Headline.{EachMoment, Headline}
use Rattle.proxy_core.specs.Run.{AskCondition, Connection, DecideByMeaning, GivesConnection, GivesStream, Happens, IsHistory, Moment, Opens, fits, unfit, nowhere, UpdateStream, acknowledged_in, connection_in, stream_in}
use Rattle.proxy_core.specs.Step.{CallsDo, EventCall, ProxyValue, events_of, new_proxy, outputs_of}
use Rattle.proxy_core.proofs.Asked.{asked}
use Rattle.proxy_core.proofs.Exactly.{all_go_on, exactly}
use Rattle.proxy_core.proofs.Runs.{runs}
use Rattle.proxy_core.proofs.Safely.{well}

-- what is put out on a connection answers what was asked
abbrev Answers : ConfigValue → List Moment → Moment → Type 0
Answers c past m = AreRepliesTo DecideByMeaning AskCondition (acknowledged_in c past) m.asks m.output.http

-- nothing was asked, and nothing is put out there
quiet : (c : ConfigValue) (past : List Moment) (m : Moment) → m.asks ≡ [] → m.output.http ≡ [] → Answers c past m
quiet c past m none silent = rw (none, silent) refl

opened : (limits : LimitsValue) (k : ℕ) (facts : Facts) (output : OutputValue) → Opens limits k facts output
    → output.http ≡ []
opened limits k facts output (fits in' sound within is) = ap (λ (o : OutputValue). o.http) is
opened limits k facts output (unfit in' out is) = ap (λ (o : OutputValue). o.http) is
opened limits k facts output (nowhere far is) = ap (λ (o : OutputValue). o.http) is

of_stream : (c : ConfigValue) (past : List Moment) (m : Moment) (s : Option UpdateStream) (bytes : List ℕ)
    → GivesStream c past m bytes s → Answers c past m
of_stream c past m None bytes (is, none, asks) = quiet c past m asks (ap (λ (o : OutputValue). o.http) is)
of_stream c past m (Some s) bytes (replies, is_broken, stream, sent, is, asks) =
    quiet c past m asks (ap (λ (o : OutputValue). o.http) is)

of_connection : (c : ConfigValue) (past : List Moment) (m : Moment) (s : Option Connection) (bytes : List ℕ)
    → GivesConnection c past m bytes s → Answers c past m
of_connection c past m None bytes (is, none, asks) = quiet c past m asks (ap (λ (o : OutputValue). o.http) is)
of_connection c past m (Some s) bytes (answers, is_done, heads, replies, is, none) =
    rw (ap (λ (o : OutputValue). o.http) is) replies

one_answered : (event : EventValue) (c : ConfigValue) (past : List Moment) (m : Moment) → Happens c past m event
    → Answers c past m
one_answered ads_up c past m (bytes, frame, (is, none, asks)) = quiet c past m asks (ap (λ (o : OutputValue). o.http) is)
one_answered (ads_bytes bytes) c past m gives = of_stream c past m (stream_in past) bytes gives
one_answered ads_lost c past m (is, none, asks) = quiet c past m asks (ap (λ (o : OutputValue). o.http) is)
one_answered (http_open k facts) c past m (output, opens, (is, none, asks)) =
    quiet c past m asks (ap (λ (o : OutputValue). o.http) is ∙ opened c.limits k facts output opens)
one_answered (http_bytes k bytes) c past m gives = of_connection c past m (connection_in k past) bytes gives
one_answered (http_closed k) c past m (is, none, asks) = quiet c past m asks (ap (λ (o : OutputValue). o.http) is)

answered : (c : ConfigValue) (past : List Moment) → IsHistory c past → EachMoment (Answers c) past
answered c [] is = tt
answered c (m ∷ past) (happens, is) = (one_answered m.event c past m happens, answered c past is)

pub headline : (c : ConfigValue) (calls : List EventCall) (end : ProxyValue) → CallsDo (new_proxy c) calls end
    → Headline c (events_of calls) (outputs_of calls)
headline c calls end all =
    let f = runs c calls end all in record {
      history = f.history;
      happened = f.happened;
      of_events = f.of_events;
      of_outputs = f.of_outputs;
      exactly = exactly c f.history f.happened;
      answered = answered c f.history f.happened;
      asked = asked c f.history f.happened;
      well = well c f.history (all_go_on c f.history f.happened).1;
    }
