-- Turns of the loop on a worker: they lead from a new worker, and what waits is what the loop takes for waiting.
use Rattle.std.proofs.Common.{◌≡◌, ℕ, zero, suc, ◌<◌, ◌==◌, ◌⊎◌, inl, inr, Bool, true, false, Option, Some, None, List, [], ◌∷◌, ◌++◌, length, set, drop, refl, sym, ap, ◌∙◌, arith, subst, append-nil, if◌then◌else◌}
use Rattle.std.specs.Prelude.{slice_get}
use Rattle.std.proofs.lemmas.Bool.{eqb-true}
use Rattle.std.proofs.lemmas.List.{length-map}
use Rattle.std.proofs.Math.Seq.{drop-append_seam}
use Rattle.attributes.specs.Conn.{Facts, conn_view}
use Rattle.ads.specs.Config.{ConfigValue}
use Rattle.http_front.specs.Front.{FrontValue}
use Rattle.proxy_core.specs.Events.{EventValue, OutputValue, ads_bytes, ads_lost, ads_output, ads_up, http_bytes, http_closed, http_open, http_output, no_output}
use Rattle.proxy_core.specs.Step.{OpensAt, ProxyValue, TakesHttp, front_at, front_in, in_place, nowhere}
use Rattle.proxy_core.proofs.Places.{nobody_length}
use Rattle.serve_loop.specs.declared.stream.Stream.{Stream}
use Rattle.serve_loop.specs.declared.stream.Stream.TheVariants.{Place, Updates}
use Rattle.serve_loop.specs.History as history
use Rattle.serve_loop.specs.History.{accepted, connected, received, closed, drain, answered, no_memory, took, gave}
use Rattle.rbac_serve.specs.Tables.{WorkerValue, new_worker, waiting_at}
use Rattle.rbac_serve.specs.Turns.{Turn, TurnDoes, TurnsDo, Works, answer_sent, request_sent}
use Rattle.rbac_serve.specs.Workers.{worker_view}
use Rattle.rbac_serve.specs.declared.connection.ConnectionState.{ConnectionState}
use Rattle.rbac_serve.specs.declared.worker.Worker.{Worker}
use Rattle.rbac_serve.proofs.Order.{none_waits, put_other, put_same}
use Rattle.rbac_serve.proofs.Turning.{Stays, start_same, turn_stays}
use Rattle.serve_core.specs.Turns.{Does, IsDriven, ServerTurn, Waits, turns_of, worker_turns}

-- ---- turns in order

turns_append : (xs ys : List Turn) (old mid new : WorkerValue) → TurnsDo old xs mid → TurnsDo mid ys new
    → TurnsDo old (xs ++ ys) new
turns_append [] ys old mid new same more = rw same at more
turns_append (x ∷ xs) ys old mid new (next, does, others) more =
    (next, does, turns_append xs ys next mid new others more)

pub turns_stay : (xs : List Turn) (old new : WorkerValue) → TurnsDo old xs new → Stays old.core new.core
turns_stay [] old new same =
    (ap (λ (w : WorkerValue). w.core.client.config) same, ap (λ (w : WorkerValue). length w.core.conns) same)
turns_stay (x ∷ xs) old new (next, does, others) =
    let (config, places) = turn_stays x old next does in
    let (config', places') = turns_stay xs next new others in
    (config' ∙ config, places' ∙ places)

pub driven_more : (turn : ServerTurn) (turns : List ServerTurn) (old new : WorkerValue) → Does old turn new
    → IsDriven turns old → IsDriven (turn ∷ turns) new
driven_more turn turns old new does driven =
    let (config, places) = turns_stay (turns_of turn) old new does in
    subst (λ (start : WorkerValue). TurnsDo start (worker_turns turns ++ turns_of turn) new)
    (sym (start_same (length new.core.conns) (length old.core.conns) new.core.client.config old.core.client.config places config))
    (turns_append (worker_turns turns) (turns_of turn) (new_worker (length old.core.conns) old.core.client.config) old new
    driven does)

pub driven_new : (w : WorkerValue) (n : ℕ) (c : ConfigValue) → w ≡ new_worker n c → IsDriven [] w
driven_new w n c is = rw is (ap (λ (it : ℕ). new_worker it c) (sym (nobody_length n)))

-- ---- one turn of a worker

single : (turn : Turn) (old new : WorkerValue) → TurnsDo old (turn ∷ []) new → TurnDoes old turn new
single turn old new (next, does, same) = rw same does

-- one event, and an event for which memory ran out with another after it
abbrev pub OneTurn : EventValue → OutputValue → WorkerValue → WorkerValue → Type 0
OneTurn event out old new = (next : WorkerValue) × Works old event out next × (new ≡ next)

abbrev pub TwoTurns : EventValue → OutputValue → WorkerValue → WorkerValue → Type 0
TwoTurns event out old new =
    (next : WorkerValue) × (next ≡ old) × ((last : WorkerValue) × Works next event out last × (new ≡ last))

pub worked : (event : EventValue) (out : OutputValue) (old new : WorkerValue) → OneTurn event out old new
    → Works old event out new
worked event out old new (next, works, same) = rw same works

pub worked_twice : (event : EventValue) (out : OutputValue) (old new : WorkerValue) → TwoTurns event out old new
    → Works old event out new
worked_twice event out old new (next, still, (last, works, same)) = rw same (rw still at works)

pub one_turn : (event : EventValue) (out : OutputValue) (old new : WorkerValue) → Works old event out new
    → OneTurn event out old new
one_turn event out old new works = (new, works, refl)

pub two_turns : (event : EventValue) (out : OutputValue) (old mid new : WorkerValue) → mid ≡ old
    → Works mid event out new → TwoTurns event out old new
two_turns event out old mid new still works = (mid, still, (new, works, refl))

-- ---- what waits in places

put_none : (xs : List (List ℕ)) (k : ℕ) → waiting_at k (set xs k []) ≡ []
put_none [] k = refl
put_none (x ∷ xs) zero = refl
put_none (x ∷ xs) (suc k) = put_none xs k

put_back : (xs : List (List ℕ)) (k : ℕ) → waiting_at k (set xs k (waiting_at k xs)) ≡ waiting_at k xs
put_back [] k = refl
put_back (x ∷ xs) zero = refl
put_back (x ∷ xs) (suc k) = put_back xs k

none_left : (bytes left : List ℕ) → [] ≡ bytes ++ left → [] ≡ left
none_left [] left parts = parts
none_left (b ∷ bytes) left parts = absurd cc

put_left : (xs : List (List ℕ)) (k : ℕ) (bytes left : List ℕ) → waiting_at k xs ≡ bytes ++ left
    → waiting_at k (set xs k left) ≡ left
put_left [] k bytes left parts = none_left bytes left parts
put_left (x ∷ xs) zero bytes left parts = refl
put_left (x ∷ xs) (suc k) bytes left parts = put_left xs k bytes left parts

-- place `k` is emptied
pub emptied_at : (b : Bool) (j k : ℕ) (xs : List (List ℕ)) (w : List ℕ) → (j == k) ≡ b → w ≡ waiting_at j xs
    → (if b then [] else w) ≡ waiting_at j (set xs k [])
emptied_at true j k xs w is same = sym (ap (λ (n : ℕ). waiting_at n (set xs k [])) (eqb-true j k is) ∙ put_none xs k)
emptied_at false j k xs w is same = same ∙ sym (put_other xs k j [] is)

-- bytes are added in place `k`, if there is such a place
pub added_at : (b : Bool) (j k : ℕ) (xs : List (List ℕ)) (out w : List ℕ) → (j == k) ≡ b → w ≡ waiting_at j xs
    → (k < length xs) ⊎ (out ≡ [])
    → (if b then w ++ out else w) ≡ waiting_at j (set xs k (waiting_at k xs ++ out))
added_at true j k xs out w is same (inl within) =
    ap (λ (l : List ℕ). l ++ out) (same ∙ ap (λ (n : ℕ). waiting_at n xs) (eqb-true j k is))
    ∙ sym (ap (λ (n : ℕ). waiting_at n (set xs k (waiting_at k xs ++ out))) (eqb-true j k is)
    ∙ put_same xs k (waiting_at k xs ++ out) within)
added_at true j k xs out w is same (inr none) =
    ap (λ (l : List ℕ). w ++ l) none ∙ append-nil w ∙ same ∙ ap (λ (n : ℕ). waiting_at n xs) (eqb-true j k is)
    ∙ sym (ap (λ (n : ℕ). waiting_at n (set xs k (waiting_at k xs ++ out))) (eqb-true j k is)
    ∙ ap (λ (l : List ℕ). waiting_at k (set xs k (waiting_at k xs ++ l))) none
    ∙ ap (λ (l : List ℕ). waiting_at k (set xs k l)) (append-nil (waiting_at k xs)) ∙ put_back xs k)
added_at false j k xs out w is same where' = same ∙ sym (put_other xs k j (waiting_at k xs ++ out) is)

-- the first bytes of those that wait in place `k` are sent
pub taken_at : (b : Bool) (j k : ℕ) (xs : List (List ℕ)) (bytes left w : List ℕ) → (j == k) ≡ b → w ≡ waiting_at j xs
    → waiting_at k xs ≡ bytes ++ left
    → (if b then drop (length bytes) w else w) ≡ waiting_at j (set xs k left)
taken_at true j k xs bytes left w is same parts =
    ap (λ (l : List ℕ). drop (length bytes) l) (same ∙ ap (λ (n : ℕ). waiting_at n xs) (eqb-true j k is) ∙ parts)
    ∙ drop-append_seam bytes left
    ∙ sym (ap (λ (n : ℕ). waiting_at n (set xs k left)) (eqb-true j k is) ∙ put_left xs k bytes left parts)
taken_at false j k xs bytes left w is same parts = same ∙ sym (put_other xs k j left is)

-- ---- what the core answers

opened_none : (old : ProxyValue) (k : ℕ) (facts : Facts) (out : List ℕ) (closes : Bool) (new : ProxyValue)
    → OpensAt old k facts (http_output out closes) new → out ≡ []
opened_none old k facts out closes new (in_place front within opens is made) = ap (λ (o : OutputValue). o.http) is
opened_none old k facts out closes new (nowhere far is made) = ap (λ (o : OutputValue). o.http) is

pub front_within : (xs : List (Option FrontValue)) (k : ℕ) (front : FrontValue) → front_in (slice_get xs k) ≡ Some front
    → k < length xs
front_within [] k front is = absurd cc
front_within (x ∷ xs) zero front is = omega arith
front_within (x ∷ xs) (suc k) front is = let within = front_within xs k front is in omega (arith, within)

answered_within : (f : Option FrontValue) (old : ProxyValue) (k : ℕ) (bytes out : List ℕ) (closes : Bool)
    (new : ProxyValue) → front_at old k ≡ f → TakesHttp f old k bytes (http_output out closes) new
    → (k < length old.conns) ⊎ (out ≡ [])
answered_within None old k bytes out closes new is (none, same) = inr (ap (λ (o : OutputValue). o.http) none)
answered_within (Some front) old k bytes out closes new is takes = inl (front_within old.conns k front is)

module _ (turns : List ServerTurn) (old new : WorkerValue) (waits : Waits turns old)
    (places : length old.answers ≡ length old.core.conns) where
  closing : (j k : ℕ) → Works old (http_closed k) no_output new
      → (if j == k then [] else history.waiting_at (Place j) turns) ≡ waiting_at j new.answers
  closing j k works = emptied_at (j == k) j k old.answers _ refl (waits (Place j))
      ∙ sym (ap (λ (xs : List (List ℕ)). waiting_at j xs) works.answers)

  same_answers : (j : ℕ) → new.answers ≡ old.answers → history.waiting_at (Place j) turns ≡ waiting_at j new.answers
  same_answers j same = waits (Place j) ∙ sym (ap (λ (xs : List (List ℕ)). waiting_at j xs) same)

  answers_more : (turn : ServerTurn) (j : ℕ) → Does old turn new
      → history.waiting_at (Place j) (turn ∷ turns) ≡ waiting_at j new.answers
  answers_more (took (accepted k conn) (answered out closes)) j does =
      let works : Works old (http_open k (conn_view conn)) (http_output out closes) new = worked _ _ old new does in
      ap (λ (l : List ℕ). if j == k then l else history.waiting_at (Place j) turns)
      (opened_none old.core k (conn_view conn) out closes new.core works.steps)
      ∙ emptied_at (j == k) j k old.answers _ refl (waits (Place j))
      ∙ sym (ap (λ (xs : List (List ℕ)). waiting_at j xs) works.answers)
  answers_more (took (accepted k conn) no_memory) j does = closing j k (worked_twice _ _ old new does)
  answers_more (took (received (Place k) bytes) (answered out closes)) j does =
      let works : Works old (http_bytes k bytes) (http_output out closes) new = worked _ _ old new does in
      added_at (j == k) j k old.answers out _ refl (waits (Place j))
      (rw places (answered_within (front_at old.core k) old.core k bytes out closes new.core refl works.steps))
      ∙ sym (ap (λ (xs : List (List ℕ)). waiting_at j xs) works.answers)
  answers_more (took (received (Place k) bytes) no_memory) j does = closing j k (worked_twice _ _ old new does)
  answers_more (took (closed (Place k)) (answered out closes)) j does = closing j k (worked _ _ old new does)
  answers_more (took (closed (Place k)) no_memory) j does = closing j k (worked _ _ old new does)
  answers_more (took connected (answered out closes)) j does =
      let works : Works old ads_up (ads_output out closes) new = worked _ _ old new does in same_answers j works.answers
  answers_more (took connected no_memory) j does =
      let works : Works old ads_lost no_output new = worked_twice _ _ old new does in same_answers j works.answers
  answers_more (took (received Updates bytes) (answered out closes)) j does =
      let works : Works old (ads_bytes bytes) (ads_output out closes) new = worked _ _ old new does in
      same_answers j works.answers
  answers_more (took (received Updates bytes) no_memory) j does =
      let works : Works old ads_lost no_output new = worked_twice _ _ old new does in same_answers j works.answers
  answers_more (took (closed Updates) (answered out closes)) j does =
      let works : Works old ads_lost no_output new = worked _ _ old new does in same_answers j works.answers
  answers_more (took (closed Updates) no_memory) j does =
      let works : Works old ads_lost no_output new = worked _ _ old new does in same_answers j works.answers
  answers_more (took drain (answered out closes)) j same =
      same_answers j (ap (λ (w : WorkerValue). w.answers) same)
  answers_more (took drain no_memory) j same = same_answers j (ap (λ (w : WorkerValue). w.answers) same)
  answers_more (gave (Place k) bytes) j does =
      let (left, parts, made) = single (answer_sent k bytes) old new does in
      taken_at (j == k) j k old.answers bytes left _ refl (waits (Place j)) parts
      ∙ sym (ap (λ (w : WorkerValue). waiting_at j w.answers) made)
  answers_more (gave Updates bytes) j does =
      let (left, parts, made) = single (request_sent bytes) old new does in
      same_answers j (ap (λ (w : WorkerValue). w.answers) made)

  same_requests : new.requests ≡ old.requests → history.waiting_at Updates turns ≡ new.requests
  same_requests same = waits Updates ∙ sym same

  requests_more : (turn : ServerTurn) → Does old turn new → history.waiting_at Updates (turn ∷ turns) ≡ new.requests
  requests_more (took (accepted k conn) (answered out closes)) does =
      let works : Works old (http_open k (conn_view conn)) (http_output out closes) new = worked _ _ old new does in
      same_requests works.requests
  requests_more (took (accepted k conn) no_memory) does =
      let works : Works old (http_closed k) no_output new = worked_twice _ _ old new does in same_requests works.requests
  requests_more (took (received (Place k) bytes) (answered out closes)) does =
      let works : Works old (http_bytes k bytes) (http_output out closes) new = worked _ _ old new does in
      same_requests works.requests
  requests_more (took (received (Place k) bytes) no_memory) does =
      let works : Works old (http_closed k) no_output new = worked_twice _ _ old new does in same_requests works.requests
  requests_more (took (closed (Place k)) (answered out closes)) does =
      let works : Works old (http_closed k) no_output new = worked _ _ old new does in same_requests works.requests
  requests_more (took (closed (Place k)) no_memory) does =
      let works : Works old (http_closed k) no_output new = worked _ _ old new does in same_requests works.requests
  requests_more (took connected (answered out closes)) does =
      let works : Works old ads_up (ads_output out closes) new = worked _ _ old new does in sym works.requests
  requests_more (took connected no_memory) does =
      let works : Works old ads_lost no_output new = worked_twice _ _ old new does in sym works.requests
  requests_more (took (received Updates bytes) (answered out closes)) does =
      let works : Works old (ads_bytes bytes) (ads_output out closes) new = worked _ _ old new does in
      ap (λ (l : List ℕ). l ++ out) (waits Updates) ∙ sym works.requests
  requests_more (took (received Updates bytes) no_memory) does =
      let works : Works old ads_lost no_output new = worked_twice _ _ old new does in sym works.requests
  requests_more (took (closed Updates) (answered out closes)) does =
      let works : Works old ads_lost no_output new = worked _ _ old new does in sym works.requests
  requests_more (took (closed Updates) no_memory) does =
      let works : Works old ads_lost no_output new = worked _ _ old new does in sym works.requests
  requests_more (took drain (answered out closes)) same = same_requests (ap (λ (w : WorkerValue). w.requests) same)
  requests_more (took drain no_memory) same = same_requests (ap (λ (w : WorkerValue). w.requests) same)
  requests_more (gave (Place k) bytes) does =
      let (left, parts, made) = single (answer_sent k bytes) old new does in
      same_requests (ap (λ (w : WorkerValue). w.requests) made)
  requests_more (gave Updates bytes) does =
      let (left, parts, made) = single (request_sent bytes) old new does in
      ap (λ (l : List ℕ). drop (length bytes) l) (waits Updates ∙ parts) ∙ drop-append_seam bytes left
      ∙ sym (ap (λ (w : WorkerValue). w.requests) made)

  pub waits_more : (turn : ServerTurn) → Does old turn new → Waits (turn ∷ turns) new
  waits_more turn does (Place j) = answers_more turn j does
  waits_more turn does Updates = requests_more turn does

-- a worker has as many outboxes as places
pub places_of : (w : Worker) → length (worker_view w).answers ≡ length (worker_view w).core.conns
places_of w = length-map w.connections.items (λ (g : ConnectionState). g.outbox)
    ∙ sym (length-map w.connections.items (λ (g : ConnectionState). g.session))

-- nothing waits in a new worker
pub waits_new : (w : WorkerValue) (n : ℕ) (c : ConfigValue) → w ≡ new_worker n c → Waits [] w
waits_new w n c is (Place k) = rw is (sym (none_waits n k))
waits_new w n c is Updates = rw is refl

-- ---- what an event adds

-- what waits in a place once its connection was answered
put_answers : (xs : List (List ℕ)) (k : ℕ) (http : List ℕ) → (k < length xs) ⊎ (http ≡ [])
    → waiting_at k (set xs k (waiting_at k xs ++ http)) ≡ waiting_at k xs ++ http
put_answers xs k http (inl within) = put_same xs k (waiting_at k xs ++ http) within
put_answers xs k http (inr none) =
    ap (λ (l : List ℕ). waiting_at k (set xs k (waiting_at k xs ++ l))) none
    ∙ ap (λ (l : List ℕ). waiting_at k (set xs k l)) (append-nil (waiting_at k xs)) ∙ put_back xs k
    ∙ sym (append-nil (waiting_at k xs)) ∙ ap (λ (l : List ℕ). waiting_at k xs ++ l) (sym none)

answered_here : (old new : WorkerValue) (k : ℕ) (bytes http : List ℕ) (closes : Bool)
    → length old.answers ≡ length old.core.conns → Works old (http_bytes k bytes) (http_output http closes) new
    → waiting_at k new.answers ≡ waiting_at k old.answers ++ http
answered_here old new k bytes http closes places works =
    ap (λ (xs : List (List ℕ)). waiting_at k xs) works.answers
    ∙ put_answers old.answers k http
    (rw places (answered_within (front_at old.core k) old.core k bytes http closes new.core refl works.steps))

-- what the bytes of a connection add is what they are answered
pub received_adds : (old new : WorkerValue) (k : ℕ) (bytes http : List ℕ) (closes : Bool)
    → length old.answers ≡ length old.core.conns → Works old (http_bytes k bytes) (http_output http closes) new
    → drop (length (waiting_at k old.answers)) (waiting_at k new.answers) ≡ http
received_adds old new k bytes http closes places works =
    ap (λ (l : List ℕ). drop (length (waiting_at k old.answers)) l) (answered_here old new k bytes http closes places works)
    ∙ drop-append_seam (waiting_at k old.answers) http

pub received_turn : (old new : WorkerValue) (k : ℕ) (bytes http : List ℕ) (closes : Bool)
    → length old.answers ≡ length old.core.conns → Works old (http_bytes k bytes) (http_output http closes) new
    → OneTurn (http_bytes k bytes) (http_output (drop (length (waiting_at k old.answers)) (waiting_at k new.answers)) closes)
    old new
received_turn old new k bytes http closes places works =
    subst (λ (l : List ℕ). OneTurn (http_bytes k bytes) (http_output l closes) old new)
    (sym (received_adds old new k bytes http closes places works))
    (one_turn (http_bytes k bytes) (http_output http closes) old new works)

pub up_turn : (old new : WorkerValue) (bytes : List ℕ) (closes : Bool) → closes ≡ false
    → Works old ads_up (ads_output bytes false) new → OneTurn ads_up (ads_output new.requests closes) old new
up_turn old new bytes closes goes works =
    subst (λ (b : Bool). OneTurn ads_up (ads_output new.requests b) old new) (sym goes)
    (subst (λ (l : List ℕ). OneTurn ads_up (ads_output l false) old new) (sym works.requests)
    (one_turn ads_up (ads_output bytes false) old new works))

-- while a request waits there is no room
pub room_means : (requests : List ℕ) (room : ℕ) → ((requests ≡ [] → ⊥) → room ≡ 0) → 0 < room → requests ≡ []
room_means [] room none some = refl
room_means (b ∷ bytes) room none some =
    let zero_room : room ≡ 0 = none (λ nil. absurd cc) in absurd (omega (arith, some, zero_room))
