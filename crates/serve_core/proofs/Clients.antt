-- A client's connection to the core: what its turns keep, and what it is answered.
use Rattle.std.proofs.Common.{◌≡◌, ◌<◌, ℕ, zero, suc, Bool, true, false, true≢false, Option, Some, None, List, [], ◌∷◌, ◌++◌, length, set, refl, sym, ap, ◌∙◌, arith, append_assoc, subst, length-set}
use Rattle.std.proofs.lemmas.Bool.{eq-eqb}
use Rattle.std.specs.Prelude.{MatchResult, codes, Result, Ok, Err, is_none, slice_get}
use Rattle.std.specs.List.{AllByRecursion}
use Rattle.std.specs.declared.alloc.AllocError.{AllocError}
use Rattle.attributes.specs.Conn.{Facts, conn_view}
use Rattle.attributes.specs.Limits.{FactsInLimits}
use Rattle.attributes.specs.Headers.{Entry}
use Rattle.attributes.specs.Request.{RequestValue, head_protocol}
use Rattle.attributes.specs.declared.protocol.Protocol.{Protocol}
use Rattle.ads.specs.Client.{ClientValue}
use Rattle.std.specs.String.{string_bytes}
use Rattle.head_map.specs.Heads.{head_of}
use Rattle.head_map.specs.Mapped.{MappingValue, PartsValue}
use Rattle.http_front.specs.Answer.{reply_view, row_of}
use Rattle.http_front.specs.Asks.{HeadAsks, request_of_head}
use Rattle.http_front.specs.Front.{FrontValue, new_front}
use Rattle.http_front.specs.Head.{HeadValue}
use Rattle.http_front.specs.Heads.{Kept, Takes, closed, reading}
use Rattle.http_front.specs.Lines.{AreLinesOf, AreNextLines}
use Rattle.http_front.specs.Parts.{spells_http11}
use Rattle.http_front.specs.Rules.{lines_of}
use Rattle.http_front.specs.declared.answer.Case.TheVariants as cases
use Rattle.http_front.specs.declared.ask.Ask.{Ask}
use Rattle.http_front.specs.declared.ask.Ask.TheVariants.{Judge, Fault}
use Rattle.http_front.specs.declared.fault.HeadFault.{HeadFault}
use Rattle.http_front.specs.declared.fault.HeadFault.TheVariants.{OutsideLimits, Unfinished}
use Rattle.proxy_core.specs.Events.{OutputValue, http_bytes, http_closed, http_open, http_output, no_output}
use Rattle.proxy_core.specs.Step.{AnswersBytes, OpensAt, OpensFront, ProxyValue, TakesHttp, front_at, front_in, in_place, nowhere, opened, unfit}
use Rattle.proxy_core.specs.declared.answered_ask.AnsweredAsk.{AnsweredAsk}
use Rattle.rbac_serve.specs.Tables.{WorkerValue}
use Rattle.rbac_serve.specs.Turns.{AnswersAt, Works}
use Rattle.serve_loop.specs.declared.service.Outcome.{Outcome}
use Rattle.serve_loop.specs.declared.stream.Stream.TheVariants.{Place, Updates}
use Rattle.serve_loop.specs.History as history
use Rattle.serve_loop.specs.History.{Effect, accepted, answered, concerns, connected, drain, gave, no_memory, received, took, waiting_at}
use Rattle.serve_core.specs.ClientRequests.{AnswersClient, AnswersHead, AreAskLines, AreToldLines, IsFaulty, IsFirst, IsGiven, IsTurnAt, OnlyAt, Refuses, RuleValue, judged, parts_of_head, refused}
use Rattle.serve_core.specs.ClientRequests as requests
use Rattle.serve_core.specs.Cores.{CoreValue, Turns}
use Rattle.serve_config.specs.declared.config.Paths.{Paths}
use Rattle.serve_core.specs.Rules.{IsJudgedClient, IsUnjudged, fields, path, reply_without}
use Rattle.serve_core.specs.Turns.{Does, ServerFacts, ServerTurn}
use Rattle.serve_core.specs.declared.front_answer.ClientRequest.{ClientRequest}
use Rattle.serve_core.specs.declared.front_answer.FrontAnswer.{FrontAnswer}
use Rattle.serve_core.specs.declared.front_answer.FrontAnswer.TheVariants as answers
use Rattle.serve_core.specs.declared.unjudged.Unjudged.{Unjudged}
use Rattle.serve_core.proofs.Driving.{worked, worked_twice}

-- ---- what the turns of a connection keep

-- the client and the number of places stay
abbrev pub Same : ProxyValue → ProxyValue → Type 0
Same old new = (new.client ≡ old.client) × (length new.conns ≡ length old.conns)

same_put : (old new : ProxyValue) (k : ℕ) (conn : Option FrontValue)
    → new ≡ record { client = old.client; conns = set old.conns k conn } → Same old new
same_put old new k conn made = (
  ap (λ (p : ProxyValue). p.client) made,
  ap (λ (p : ProxyValue). length p.conns) made ∙ length-set old.conns k conn,
)

same_as : (old new : ProxyValue) → new ≡ old → Same old new
same_as old new same = (ap (λ (p : ProxyValue). p.client) same, ap (λ (p : ProxyValue). length p.conns) same)

opens_same : (old new : ProxyValue) (k : ℕ) (facts : Facts) (out : OutputValue) → OpensAt old k facts out new → Same old new
opens_same old new k facts out (in_place front within opens is made) = same_put old new k front made
opens_same old new k facts out (nowhere far is made) = same_as old new made

takes_same : (f : Option FrontValue) (old new : ProxyValue) (k : ℕ) (bytes : List ℕ) (out : OutputValue)
    → TakesHttp f old k bytes out new → Same old new
takes_same None old new k bytes out (is, same) = same_as old new same
takes_same (Some front) old new k bytes out (http, after, takes, is, made) = same_put old new k after made

closes_same : (old new : WorkerValue) (k : ℕ) → Works old (http_closed k) no_output new → Same old.core new.core
closes_same old new k works = let (none, made) = works.steps in same_put old.core new.core k None made

turn_same : (k : ℕ) (turn : ServerTurn) (old new : WorkerValue) → IsTurnAt k turn → Does old turn new
    → Same old.core new.core
turn_same k (took (accepted j conn) (answered out closes)) old new here does =
    let works : Works old (http_open j (conn_view conn)) (http_output out closes) new = worked _ _ old new does in
    opens_same old.core new.core j (conn_view conn) (http_output out closes) works.steps
turn_same k (took (accepted j conn) no_memory) old new here does = closes_same old new j (worked_twice _ _ old new does)
turn_same k (took (received (Place j) bytes) (answered out closes)) old new here does =
    let works : Works old (http_bytes j bytes) (http_output out closes) new = worked _ _ old new does in
    takes_same (front_at old.core j) old.core new.core j bytes (http_output out closes) works.steps
turn_same k (took (received (Place j) bytes) no_memory) old new here does =
    closes_same old new j (worked_twice _ _ old new does)
turn_same k (took (history.closed (Place j)) (answered out closes)) old new here does =
    closes_same old new j (worked _ _ old new does)
turn_same k (took (history.closed (Place j)) no_memory) old new here does = closes_same old new j (worked _ _ old new does)
turn_same k (took (received Updates bytes) effect) old new here does = absurd (true≢false (sym here))
turn_same k (took (history.closed Updates) effect) old new here does = absurd (true≢false (sym here))
turn_same k (took connected effect) old new here does = absurd (true≢false (sym here))
turn_same k (took drain effect) old new here does = absurd (true≢false (sym here))
turn_same k (gave s bytes) old new here does = absurd here

pub only_none : (k : ℕ) (core : CoreValue) → OnlyAt k core core
only_none k core = record { more = []; turns = refl; here = tt; client = refl; places = refl }

pub only_one : (k : ℕ) (turn : ServerTurn) (old new : CoreValue) → IsTurnAt k turn → Turns old turn new → OnlyAt k old new
only_one k turn old new here (turns, does) =
    let (client, places) = turn_same k turn old.worker new.worker here does in
    record { more = turn ∷ []; turns = turns; here = (here, tt); client = client; places = places }

all_more : (P : ServerTurn → Type 0) (xs ys : List ServerTurn) → AllByRecursion P xs → AllByRecursion P ys
    → AllByRecursion P (xs ++ ys)
all_more P [] ys these those = those
all_more P (x ∷ xs) ys (one, these) those = (one, all_more P xs ys these those)

pub only_then : (k : ℕ) (old mid new : CoreValue) → OnlyAt k old mid → OnlyAt k mid new → OnlyAt k old new
only_then k old mid new first next = record {
  more = next.more ++ first.more;
  turns = next.turns ∙ ap (λ (ts : List ServerTurn). next.more ++ ts) first.turns
      ∙ sym (append_assoc next.more first.more old.turns);
  here = all_more (IsTurnAt k) next.more first.more next.here first.here;
  client = next.client ∙ first.client;
  places = next.places ∙ first.places;
}

-- turns of a connection leave what waits for the updates
skip_one : (k : ℕ) (turn : ServerTurn) (turns : List ServerTurn) → IsTurnAt k turn
    → waiting_at Updates (turn ∷ turns) ≡ waiting_at Updates turns
skip_one k (took (accepted j conn) effect) turns here = refl
skip_one k (took (received (Place j) bytes) effect) turns here = refl
skip_one k (took (history.closed (Place j)) effect) turns here = refl
skip_one k (took (received Updates bytes) effect) turns here = absurd (true≢false (sym here))
skip_one k (took (history.closed Updates) effect) turns here = absurd (true≢false (sym here))
skip_one k (took connected effect) turns here = absurd (true≢false (sym here))
skip_one k (took drain effect) turns here = absurd (true≢false (sym here))
skip_one k (gave s bytes) turns here = absurd here

skip_all : (k : ℕ) (more turns : List ServerTurn) → AllByRecursion (IsTurnAt k) more
    → waiting_at Updates (more ++ turns) ≡ waiting_at Updates turns
skip_all k [] turns here = refl
skip_all k (turn ∷ more) turns (one, here) = skip_one k turn (more ++ turns) one ∙ skip_all k more turns here

pub only_waits : (k : ℕ) (old new : CoreValue) → OnlyAt k old new
    → waiting_at Updates new.turns ≡ waiting_at Updates old.turns
only_waits k old new only =
    ap (λ (ts : List ServerTurn). waiting_at Updates ts) only.turns ∙ skip_all k only.more old.turns only.here

-- ---- a client's connection opens

-- it is open, with its front
pub opened_front : (old new : WorkerValue) (k : ℕ) (conn : ServerFacts) (out : List ℕ) (closes : Bool)
    → k < length old.core.conns → closes ≡ false → Does old (took (accepted k conn) (answered out closes)) new
    → front_at new.core k ≡ Some (new_front old.core.client.config.limits (conn_view conn))
opened_front old new k conn out closes within stays does =
    let works : Works old (http_open k (conn_view conn)) (http_output out closes) new = worked _ _ old new does in
    by works.steps
  where
    here : (xs : List (Option FrontValue)) (j : ℕ) (x : Option FrontValue) → j < length xs
        → front_in (slice_get (set xs j x) j) ≡ x
    here [] j x there = absurd (omega arith)
    here (y ∷ xs) zero None there = refl
    here (y ∷ xs) zero (Some f) there = refl
    here (y ∷ xs) (suc j) x there = here xs j x (omega arith)

    front_is : (front : Option FrontValue) → OpensFront old.core.client.config.limits (conn_view conn) front
        → closes ≡ is_none front → front ≡ Some (new_front old.core.client.config.limits (conn_view conn))
    front_is front (opened facts fits some) is = some
    front_is front (unfit not none) is =
        absurd (true≢false (sym (ap (λ (f : Option FrontValue). is_none f) none) ∙ sym is ∙ stays))

    by : OpensAt old.core k (conn_view conn) (http_output out closes) new.core
        → front_at new.core k ≡ Some (new_front old.core.client.config.limits (conn_view conn))
    by (in_place front there opens is made) =
        ap (λ (p : ProxyValue). front_at p k) made ∙ here old.core.conns k front there
        ∙ front_is front opens (ap (λ (o : OutputValue). o.http_close) is)
    by (nowhere far is made) = absurd (omega (arith, within, far))

-- it is turned away
pub opened_not : (old new : WorkerValue) (k : ℕ) (conn : ServerFacts) (out : List ℕ) (closes : Bool)
    → closes ≡ true → Does old (took (accepted k conn) (answered out closes)) new
    → FactsInLimits (conn_view conn) old.core.client.config.limits → ⊥
opened_not old new k conn out closes shut does =
    let works : Works old (http_open k (conn_view conn)) (http_output out closes) new = worked _ _ old new does in
    by works.steps
  where
    front_is : (front : Option FrontValue) → OpensFront old.core.client.config.limits (conn_view conn) front
        → closes ≡ is_none front → FactsInLimits (conn_view conn) old.core.client.config.limits → ⊥
    front_is front (opened facts fits some) is =
        absurd (true≢false (sym shut ∙ is ∙ ap (λ (f : Option FrontValue). is_none f) some))
    front_is front (unfit not none) is = not

    by : OpensAt old.core k (conn_view conn) (http_output out closes) new.core
        → FactsInLimits (conn_view conn) old.core.client.config.limits → ⊥
    by (in_place front there opens is made) = front_is front opens (ap (λ (o : OutputValue). o.http_close) is)
    by (nowhere far is made) = absurd (true≢false (sym shut ∙ ap (λ (o : OutputValue). o.http_close) is))

-- a connection is closed, whether memory ran out or not
closed_turn : (k : ℕ) (old new : CoreValue) (result : Result Outcome AllocError)
    → MatchResult result (λ outcome. Turns old (took (history.closed (Place k)) (answered [] outcome.closes)) new)
    (λ _. Turns old (took (history.closed (Place k)) no_memory) new)
    → (effect : Effect) × Turns old (took (history.closed (Place k)) effect) new
closed_turn k old new (Ok outcome) turn = (answered [] outcome.closes, turn)
closed_turn k old new (Err e) turn = (no_memory, turn)

-- ---- a client is answered

given_all : (old mid new : CoreValue) (k : ℕ) (conn : ServerFacts) (head out : List ℕ) (closes closes' : Bool)
    (asked : List AnsweredAsk) → k < length old.worker.core.conns → closes ≡ false
    → Turns old (took (accepted k conn) (answered [] closes)) mid
    → Turns mid (took (received (Place k) head) (answered out closes')) new
    → AnswersAt (front_at mid.worker.core k) mid.worker.core.client.accepted head asked out
    → IsGiven old k conn head (Some asked) new
given_all old mid new k conn head out closes closes' asked within stays first next answers =
    let front : front_at mid.worker.core k ≡ Some (new_front old.worker.core.client.config.limits (conn_view conn)) =
    opened_front old.worker mid.worker k conn [] closes within stays first.1 in
    let client : mid.worker.core.client ≡ old.worker.core.client =
    (only_one k _ old mid (eq-eqb k k refl) first).client in
    let (after, given) = subst (λ (c : ClientValue). AnswersAt (Some (new_front old.worker.core.client.config.limits (conn_view conn))) c.accepted head asked out) client
    (subst (λ (f : Option FrontValue). AnswersAt f mid.worker.core.client.accepted head asked out) front answers) in
    (mid, closes', out, after, rw stays at first, next, given)

pub given_some : (old mid new last : CoreValue) (k : ℕ) (conn : ServerFacts) (head bytes out : List ℕ)
    (closes closes' : Bool) (asked taken : List AnsweredAsk) → k < length old.worker.core.conns → closes ≡ false
    → Turns old (took (accepted k conn) (answered [] closes)) mid
    → Turns mid (took (received (Place k) bytes) (answered out closes')) new
    → AnswersAt (front_at mid.worker.core k) mid.worker.core.client.accepted bytes asked out
    → bytes ≡ head → taken ≡ asked → last ≡ new → IsGiven old k conn head (Some taken) last
given_some old mid new last k conn head bytes out closes closes' asked taken within stays first next answers said same kept =
    subst (λ (l : CoreValue). IsGiven old k conn head (Some taken) l) (sym kept)
    (subst (λ (l : List AnsweredAsk). IsGiven old k conn head (Some l) new) (sym same)
    (subst (λ (t : List ℕ). IsGiven old k conn t (Some asked) new) said
    (given_all old mid new k conn bytes out closes closes' asked within stays first next answers)))

pub given_none : (old new : CoreValue) (k : ℕ) (conn : ServerFacts) (head : List ℕ) (closes : Bool) → closes ≡ true
    → Turns old (took (accepted k conn) (answered [] closes)) new → IsGiven old k conn head None new
given_none old new k conn head closes shuts turn =
    (opened_not old.worker new.worker k conn [] closes shuts turn.1, rw shuts at turn)

module _ (old mid new : CoreValue) (k : ℕ) (client : PartsValue) (http11 : Bool) (request : ClientRequest)
    (facts : conn_view request.conn ≡ client.facts)
    (ends : (effect : Effect) × Turns mid (took (history.closed (Place k)) effect) new) where
  client_judged : (asked : List AnsweredAsk) → IsGiven old k request.conn (head_of client http11) (Some asked) mid
      → string_bytes request.head ≡ head_of client http11 → IsFirst old.worker asked request.answered_ask
      → AnswersClient old k client http11 request new
  client_judged asked (mid', closes, out, after, first, next, given) head is = (
    facts,
    judged asked out after (record {
      opened = mid';
      judged = mid;
      closes = closes;
      effect = ends.0;
      opens = first;
      gives = next;
      ends = ends.1;
    }) head (subst (λ (f : Facts). AnswersBytes old.worker.core.client.accepted (new_front old.worker.core.client.config.limits f)
        (head_of client http11) asked out after) facts given) is,
  )

  client_unfit : IsGiven old k request.conn (head_of client http11) None mid → string_bytes request.head ≡ []
      → IsFaulty old.worker OutsideLimits request.answered_ask → AnswersClient old k client http11 request new
  client_unfit (not, first) head is = (
    facts,
    requests.unfit (subst (λ (f : Facts). FactsInLimits f old.worker.core.client.config.limits → ⊥) facts not) (record { opened = mid; effect = ends.0; opens = first; ends = ends.1 }) head is,
  )

-- ---- replies without a judgement

without_same : (v w : WorkerValue) (fault : HeadFault) → v.core.client ≡ w.core.client
    → reply_without (cases.Fault fault) v ≡ reply_without (cases.Fault fault) w
without_same v w fault same = ap
    (λ (c : ClientValue). record { case = cases.Fault fault; matches = []; generation = c.accepted.generation; closes = false; is_head = false })
    same

faulty_same : (v w : WorkerValue) (fault : HeadFault) (it : AnsweredAsk) → v.core.client ≡ w.core.client
    → IsFaulty v fault it → IsFaulty w fault it
faulty_same v w fault it same (ask, reply) = (ask, reply ∙ without_same v w fault same)

first_same : (v w : WorkerValue) (all : List AnsweredAsk) (it : AnsweredAsk) → v.core.client ≡ w.core.client
    → IsFirst v all it → IsFirst w all it
first_same v w [] it same is = faulty_same v w Unfinished it same is
first_same v w (first ∷ others) it same is = is

-- ---- a client's connection ends

-- the closing is a turn of the connection
pub closed_only : (k : ℕ) (old new : CoreValue) (result : Result Outcome AllocError)
    → MatchResult result (λ outcome. Turns old (took (history.closed (Place k)) (answered [] outcome.closes)) new)
    (λ _. Turns old (took (history.closed (Place k)) no_memory) new) → OnlyAt k old new
closed_only k old new result closes =
    let (effect, turn) = closed_turn k old new result closes in
    only_one k (took (history.closed (Place k)) effect) old new (eq-eqb k k refl) turn

module _ (old mid new : CoreValue) (k : ℕ) (client : PartsValue) (http11 : Bool) (request : ClientRequest)
    (head : List ℕ) (result : Result Outcome AllocError) (facts : conn_view request.conn ≡ client.facts)
    (written : head ≡ head_of client http11) (only : OnlyAt k old mid)
    (closes : MatchResult result
    (λ outcome. Turns mid (took (history.closed (Place k)) (answered [] outcome.closes)) new)
    (λ _. Turns mid (took (history.closed (Place k)) no_memory) new)) where
  same_client : new.worker.core.client ≡ old.worker.core.client
  same_client = (only_then k old mid new only (closed_only k mid new result closes)).client

  -- the core answered the head
  pub client_some : (asked : List AnsweredAsk) → IsGiven old k request.conn head (Some asked) mid
      → string_bytes request.head ≡ head → IsFirst new.worker asked request.answered_ask
      → AnswersClient old k client http11 request new
  client_some asked given whole first =
      client_judged old mid new k client http11 request facts (closed_turn k mid new result closes) asked
      (subst (λ (t : List ℕ). IsGiven old k request.conn t (Some asked) mid) written given) (whole ∙ written)
      (first_same new.worker old.worker asked request.answered_ask same_client first)

  -- the core turned it away
  pub client_none : IsGiven old k request.conn head None mid → string_bytes request.head ≡ []
      → IsFaulty new.worker OutsideLimits request.answered_ask → AnswersClient old k client http11 request new
  client_none given whole faulty =
      client_unfit old mid new k client http11 request facts (closed_turn k mid new result closes)
      (subst (λ (t : List ℕ). IsGiven old k request.conn t None mid) written given) whole
      (faulty_same new.worker old.worker OutsideLimits request.answered_ask same_client faulty)

-- ---- a front's request

-- these parts
abbrev pub parts_from : List ℕ → List ℕ → List Entry → Facts → PartsValue
parts_from m t ls f = record { method = m; target = t; lines = ls; facts = f }

parts_are : (h : HeadValue) (facts f : Facts) (r : RequestValue) (m t : List ℕ) (ls : List Entry)
    → r ≡ request_of_head h facts → m ≡ r.method → t ≡ r.target → ls ≡ lines_of h → f ≡ r.facts
    → parts_from m t ls f ≡ parts_of_head h facts
parts_are h facts f r m t ls is method target lines known =
    let method' : m ≡ h.method = method ∙ ap (λ (q : RequestValue). q.method) is in
    let target' : t ≡ h.target = target ∙ ap (λ (q : RequestValue). q.target) is in
    let facts' : f ≡ facts = known ∙ ap (λ (q : RequestValue). q.facts) is in
    rw (method', target', lines, facts') refl

same_version : (b : Bool) → spells_http11 (head_protocol b) ≡ b
same_version true = refl
same_version false = refl

module _ (rule : RuleValue) (k : ℕ) (h : HeadValue) (facts f : Facts) (r : RequestValue) (m t : List ℕ) (ls : List Entry)
    (old new : CoreValue) (is : r ≡ request_of_head h facts) (method : m ≡ r.method) (target : t ≡ r.target)
    (lines : ls ≡ lines_of h) (known : f ≡ r.facts) where
  parts : parts_from m t ls f ≡ parts_of_head h facts
  parts = parts_are h facts f r m t ls is method target lines known

  -- the rule gives a client's request, which is answered
  pub head_judged : (client : PartsValue) (request : ClientRequest) (b : Bool) (p : Protocol)
      → IsJudgedClient rule.mapping rule.paths (parts_from m t ls f) client → b ≡ spells_http11 p → p ≡ r.protocol
      → AnswersClient old k client b request new → AnswersHead rule k h facts old (answers.Judged request) new
  head_judged client request b p fits version protocol it =
      let same : b ≡ h.http11 =
      version ∙ ap spells_http11 (protocol ∙ ap (λ (q : RequestValue). q.protocol) is) ∙ same_version h.http11 in
      judged client request (subst (λ (q : PartsValue). IsJudgedClient rule.mapping rule.paths q client) parts fits)
      (subst (λ (v : Bool). AnswersClient old k client v request new) same it) refl

  -- the rule gives none
  pub head_refused : (unjudged : Unjudged) (answer : FrontAnswer)
      → IsUnjudged rule.mapping rule.paths (parts_from m t ls f) unjudged → Refuses old unjudged answer new
      → AnswersHead rule k h facts old answer new
  head_refused unjudged answer none refuses =
      refused unjudged (subst (λ (q : PartsValue). IsUnjudged rule.mapping rule.paths q unjudged) parts none) refuses

-- the front tells these lines, or none
pub told_some : (front : FrontValue) (lines : List Entry) → AreNextLines front (Some lines) → AreToldLines front lines
told_some front lines told = (Some lines, told, λ some is. cc)

pub told_none : (front : FrontValue) (lines : List Entry) → AreNextLines front None → AreToldLines front lines
told_none front lines told = (None, told, λ some is. absurd cc)

-- the lines that a front tells beside its next ask are that ask's
pub ask_lines : (kept next : Kept) (front : FrontValue) (ask : Ask) (found : Option (List Entry)) (lines : List Entry)
    → front.kept ≡ kept → AreNextLines front found → Takes front.limits front.facts kept ask next
    → ((some : List Entry) → found ≡ Some some → lines ≡ some) → AreAskLines front.facts kept ask lines
ask_lines (reading skip bytes) next front (Judge r closes) None lines is told (none, asks, shut, made) these =
    let (fault, broken) = (rw is at told) asks.head asks.rest (none, asks.starts) in
    absurd (asks.keeps_rules fault broken)
ask_lines (reading skip bytes) next front (Judge r closes) (Some some) lines is told (none, asks, shut, made) these =
    let (keeps, are) = (rw is at told) asks.head asks.rest (none, asks.starts) in
    (asks.head, asks.rest, (none, asks.starts), asks.request, these some refl ∙ are)
ask_lines (reading skip bytes) next front (Fault fault) found lines is told takes these = tt
ask_lines closed next front ask found lines is told takes these = absurd takes

-- a request that is not judged is answered 400
pub unjudged_400 : (m : MappingValue) (paths : Paths) (old : PartsValue) (unjudged : Unjudged)
    → IsUnjudged m paths old unjudged
    → ((row_of unjudged.case).status ≡ 400) × ((row_of unjudged.case).verdict ≡ codes "none")
unjudged_400 m paths old unjudged (fields fault has case client) = rw case (refl, refl)
unjudged_400 m paths old unjudged (path client fault strict mapped has case known) = rw case (refl, refl)
