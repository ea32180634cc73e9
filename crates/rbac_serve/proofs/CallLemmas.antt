-- The calls of a worker are turns of it.
use Rattle.std.proofs.Common.{◌≡◌, ℕ, ◌<◌, ◌≤◌, Bool, true, false, Option, Some, None, List, [], ◌++◌, length, set, refl, sym, ap, ◌∙◌, subst, append-nil}
use Rattle.std.specs.Prelude.{is_none, is_some, not, slice_get}
use Rattle.std.specs.List.{AllByRecursion}
use Rattle.std.specs.Io.KnownBytes.{Appends}
use Rattle.std.proofs.lemmas.Grind.{merely}
use Rattle.std.proofs.lemmas.List.{length-map}
use Rattle.attributes.specs.Conn.{Facts}
use Rattle.ads.specs.Client.{ClientValue, new_client}
use Rattle.ads.specs.Config.{ConfigValue}
use Rattle.ads.specs.Ends.{client_view}
use Rattle.ads.specs.declared.client.Client.{Client}
use Rattle.http_front.specs.Front.{FrontValue}
use Rattle.proxy_core.specs.Events.{http_bytes, http_closed, http_open, http_output, no_output}
use Rattle.proxy_core.specs.Step.{OpensFront, nowhere, nobody}
use Rattle.proxy_core.specs.declared.answered_ask.AnsweredAsk.{AnsweredAsk}
use Rattle.rbac_serve.specs.Tables.{FitsFor, WorkerValue, new_worker, nothing_waits, sessions_of, state_of, waiting_at, waiting_of}
use Rattle.rbac_serve.specs.Turns.{IsReached, AnswersTurn, TurnDoes, Works, answer_sent}
use Rattle.rbac_serve.specs.declared.connection.ConnectionState.{ConnectionState}
use Rattle.rbac_serve.specs.private.ConnectionStates.{AnswersConnection, free_connection, free_connections}
use Rattle.rbac_serve.proofs.PlaceLemmas.{fits_free, fits_put_is, free_sessions, free_waits, none_past, now_there, put_in, put_twice, session_at, session_back, state_past, state_put, waits_at, waits_past}
use Rattle.rbac_serve.proofs.Turning.{close_works, answered_at, answered_turn, open_works, start_reached, works_more}

abbrev made : ClientValue → List (Option FrontValue) → List (List ℕ) → List ℕ → WorkerValue
made client conns answers requests =
    record { core = record { client = client; conns = conns }; answers = answers; requests = requests }

-- ---- a new worker

pub new_state : (client : Client) (c : ConfigValue) (n : ℕ) (gs : List ConnectionState) (requests : List ℕ)
    → client_view client ≡ new_client c → gs ≡ free_connections n → requests ≡ []
    → state_of client gs requests ≡ new_worker n c
new_state client c n gs requests is places none =
    ap (λ (it : ClientValue). made it (sessions_of gs) (waiting_of gs) requests) is
    ∙ ap (λ (xs : List ConnectionState). made (new_client c) (sessions_of xs) (waiting_of xs) requests) places
    ∙ ap (λ (l : List (Option FrontValue)). made (new_client c) l (waiting_of (free_connections n)) requests) (free_sessions n)
    ∙ ap (λ (l : List (List ℕ)). made (new_client c) (nobody n) l requests) (free_waits n)
    ∙ ap (made (new_client c) (nobody n) (nothing_waits n)) none

pub new_fits : (client : Client) (n : ℕ) (gs : List ConnectionState) → gs ≡ free_connections n
    → ∥ AllByRecursion (FitsFor (client_view client).config.limits) (sessions_of gs) ∥₁
new_fits client n gs places =
    subst (λ (xs : List ConnectionState). ∥ AllByRecursion (FitsFor (client_view client).config.limits) (sessions_of xs) ∥₁)
    (sym places) (merely (fits_free (client_view client).config.limits n))

pub new_reached : (client : Client) (c : ConfigValue) (n : ℕ) (gs : List ConnectionState) (requests : List ℕ)
    → client_view client ≡ new_client c → gs ≡ free_connections n → requests ≡ []
    → ∥ IsReached (state_of client gs requests) ∥₁
new_reached client c n gs requests is places none =
    subst (λ (w : WorkerValue). ∥ IsReached w ∥₁) (sym (new_state client c n gs requests is places none))
    (start_reached n c)

-- ---- a call that changed nothing

pub same_fits : (old new : Client) (gs : List ConnectionState) → client_view new ≡ client_view old
    → ∥ AllByRecursion (FitsFor (client_view old).config.limits) (sessions_of gs) ∥₁
    → ∥ AllByRecursion (FitsFor (client_view new).config.limits) (sessions_of gs) ∥₁
same_fits old new gs same fits =
    subst (λ (c : ClientValue). ∥ AllByRecursion (FitsFor c.config.limits) (sessions_of gs) ∥₁) (sym same) fits

pub same_reached : (old new : Client) (gs : List ConnectionState) (requests : List ℕ) → client_view new ≡ client_view old
    → ∥ IsReached (state_of old gs requests) ∥₁ → ∥ IsReached (state_of new gs requests) ∥₁
same_reached old new gs requests same reached =
    subst (λ (c : ClientValue). ∥ IsReached (made c (sessions_of gs) (waiting_of gs) requests) ∥₁) (sym same) reached

-- ---- the events of a connection

-- a call of `is_none` says whether there is none
pub none_reported : (front : Option FrontValue) (none : Bool) → is_some front ≡ not none → none ≡ is_none front
none_reported None true is = refl
none_reported None false is = absurd cc
none_reported (Some f) true is = absurd cc
none_reported (Some f) false is = refl

-- a writer that took no bytes
pub nothing_sent : (out : Option (List ℕ)) → Appends out out []
nothing_sent None = tt
nothing_sent (Some xs) = sym (append-nil xs)

module _ (client : Client) (requests : List ℕ) (gs : List ConnectionState) (k : ℕ) where
  abbrev old : WorkerValue
  old = state_of client gs requests

  in_conns : k < length gs → k < length old.core.conns
  in_conns within = rw (length-map gs (λ (g : ConnectionState). g.session)) within

  -- ---- a place that is not there

  module _ (far : length gs ≤ k) where
    far_conns : length old.core.conns ≤ k
    far_conns = rw (length-map gs (λ (g : ConnectionState). g.session)) far

    same_answers : old.answers ≡ set old.answers k []
    same_answers = ap (λ (w : WorkerValue). w.answers) (state_past client requests gs k far)

    pub open_past : (facts : Facts) → Works old (http_open k facts) (http_output [] false) old
    open_past facts = record { steps = nowhere far_conns refl refl; answers = same_answers; requests = refl }

    pub close_past : Works old (http_closed k) no_output old
    close_past = record {
      steps = (refl, ap (λ (w : WorkerValue). w.core) (state_past client requests gs k far));
      answers = same_answers;
      requests = refl;
    }

    pub bytes_past : (bytes : List ℕ) (answered_asks : List AnsweredAsk) → answered_asks ≡ [] → AnswersTurn old k bytes answered_asks false old
    bytes_past bytes answered_asks nothing = rw nothing (
      [],
      record {
        steps = rw (none_past gs k far) (refl, refl);
        answers = same_answers ∙ ap (λ (l : List ℕ). set old.answers k (l ++ [])) (sym (waits_past gs k far));
        requests = refl;
      },
      rw (none_past gs k far) (refl, refl),
    )

    pub send_past : TurnDoes old (answer_sent k []) old
    send_past = (
      [],
      waits_past gs k far,
      ap (λ (l : List (List ℕ)). record { core = old.core; answers = l; requests = requests }) same_answers,
    )

  -- ---- a place that is there

  pub open_done : (new : List ConnectionState) (facts : Facts) (front : Option FrontValue) (closes : Bool) → k < length gs
      → new ≡ set gs k (record { session = front; outbox = [] })
      → OpensFront (client_view client).config.limits facts front → closes ≡ is_none front
      → Works old (http_open k facts) (http_output [] closes) (state_of client new requests)
  open_done new facts front closes within put opens is =
      subst (λ (w : WorkerValue). Works old (http_open k facts) (http_output [] closes) w)
      (sym (state_put client requests gs new k (record { session = front; outbox = [] }) put))
      (subst (λ (b : Bool). Works old (http_open k facts) (http_output [] b) (put_in old k front [])) (sym is)
      (open_works old k facts front (in_conns within) opens))

  pub close_done : (new : List ConnectionState) → new ≡ set gs k free_connection
      → Works old (http_closed k) no_output (state_of client new requests)
  close_done new put =
      subst (λ (w : WorkerValue). Works old (http_closed k) no_output w)
      (sym (state_put client requests gs new k free_connection put)) (close_works old k)

  pub close_reached : (new : List ConnectionState) → new ≡ set gs k free_connection → ∥ IsReached old ∥₁
      → ∥ IsReached (state_of client new requests) ∥₁
  close_reached new put reached =
      works_more (http_closed k) no_output old (state_of client new requests) (close_done new put) reached

  module _ (mid new : List ConnectionState) (g h : ConnectionState) (there : slice_get gs k ≡ Some g) (taken : mid ≡ set gs k free_connection)
      (put : new ≡ set mid k h) where
    put_whole : new ≡ set gs k h
    put_whole = put_twice gs mid new k free_connection h taken put

    pub put_fits : FitsFor (client_view client).config.limits h.session
        → ∥ AllByRecursion (FitsFor (client_view client).config.limits) (sessions_of gs) ∥₁
        → ∥ AllByRecursion (FitsFor (client_view client).config.limits) (sessions_of new) ∥₁
    put_fits fits all = fits_put_is (client_view client).config.limits gs new k h put_whole fits all

    answered_state : (http : List ℕ) → h.outbox ≡ g.outbox ++ http
        → state_of client new requests ≡ answered_at old k http h.session
    answered_state http waits =
        state_put client requests gs new k h put_whole
        ∙ ap (λ (l : List ℕ). put_in old k h.session l)
        (waits ∙ ap (λ (l : List ℕ). l ++ http) (sym (waits_at gs k g there)))

    pub bytes_done : (bytes : List ℕ) (answered_asks : List AnsweredAsk) (http : List ℕ) (closes : Bool)
        → AnswersConnection g.session (client_view client).accepted bytes answered_asks http h.session closes
        → h.outbox ≡ g.outbox ++ http → AnswersTurn old k bytes answered_asks closes (state_of client new requests)
    bytes_done bytes answered_asks http closes answer_connection waits =
        subst (λ (w : WorkerValue). AnswersTurn old k bytes answered_asks closes w) (sym (answered_state http waits))
        (answered_turn g.session old k bytes answered_asks http h.session closes (session_at gs k g there) answer_connection)

    pub bytes_reached : (bytes : List ℕ) (answered_asks : List AnsweredAsk) (closes : Bool)
        → AnswersTurn old k bytes answered_asks closes (state_of client new requests) → ∥ IsReached old ∥₁
        → ∥ IsReached (state_of client new requests) ∥₁
    bytes_reached bytes answered_asks closes (http, works, reports) reached =
        works_more (http_bytes k bytes) (http_output http closes) old (state_of client new requests) works reached

    same_sessions : h.session ≡ g.session → set (sessions_of gs) k h.session ≡ sessions_of gs
    same_sessions is = rw is (session_back gs k g there)

    pub send_done : (sent : List ℕ) → h.session ≡ g.session → g.outbox ≡ sent ++ h.outbox
        → TurnDoes old (answer_sent k sent) (state_of client new requests)
    send_done sent is parts = (
      h.outbox,
      waits_at gs k g there ∙ parts,
      state_put client requests gs new k h put_whole
          ∙ ap (λ (l : List (Option FrontValue)). record {
            core = record { client = client_view client; conns = l };
            answers = set old.answers k h.outbox;
            requests = requests;
          }) (same_sessions is),
    )

    pub left_there : k < length gs → waiting_at k (waiting_of new) ≡ h.outbox
    left_there within = waits_at new k h (rw put_whole (now_there gs k h within))
