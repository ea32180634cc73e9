-- Connections in their places.
use Rattle.std.proofs.Common.{◌≡◌, ℕ, zero, suc, ◌<◌, ◌≤◌, Option, Some, None, List, [], ◌∷◌, ◌++◌, length, get_or, set, refl, sym, ap, ◌∙◌, arith}
use Rattle.std.specs.Prelude.{slice_get}
use Rattle.std.specs.List.{AllByRecursion}
use Rattle.std.proofs.Math.Logic.{∥∥₁_elim, ∥∥₁_prop}
use Rattle.std.proofs.Props.{props}
use Rattle.std.proofs.lemmas.Grind.{merely}
use Rattle.std.proofs.lemmas.List.{length-append, map-set, set-set}
use Rattle.attributes.specs.Limits.{LimitsValue}
use Rattle.ads.specs.declared.client.Client.{Client}
use Rattle.ads.specs.Ends.{client_view}
use Rattle.http_front.specs.Front.{FrontValue}
use Rattle.proxy_core.specs.Step.{front_in, nobody, with_conn}
use Rattle.rbac_serve.specs.Tables.{FitsFor, WorkerValue, nothing_waits, sessions_of, state_of, waiting_at, waiting_of}
use Rattle.rbac_serve.specs.declared.connection.ConnectionState.{ConnectionState}
use Rattle.rbac_serve.specs.private.ConnectionStates.{free_connection, free_connections}

-- ---- limits

all_put : (limits : LimitsValue) (gs : List ConnectionState) (k : ℕ) (g : ConnectionState) → FitsFor limits g.session
    → AllByRecursion (FitsFor limits) (sessions_of gs) → AllByRecursion (FitsFor limits) (sessions_of (set gs k g))
all_put limits [] k g this all = tt
all_put limits (h ∷ gs) zero g this (one, all) = (this, all)
all_put limits (h ∷ gs) (suc k) g this (one, all) = (one, all_put limits gs k g this all)

-- a connection is put into a place
pub fits_put : (limits : LimitsValue) (gs : List ConnectionState) (k : ℕ) (g : ConnectionState) → FitsFor limits g.session
    → ∥ AllByRecursion (FitsFor limits) (sessions_of gs) ∥₁
    → ∥ AllByRecursion (FitsFor limits) (sessions_of (set gs k g)) ∥₁
fits_put limits gs k g this all = ∥∥₁_elim all ∥∥₁_prop (λ each. merely (all_put limits gs k g this each))

some_same : (g h : ConnectionState) → Some g ≡ Some h → g ≡ h
some_same g h is = cc

all_at : (limits : LimitsValue) (gs : List ConnectionState) (k : ℕ) (g : ConnectionState) → slice_get gs k ≡ Some g
    → AllByRecursion (FitsFor limits) (sessions_of gs) → FitsFor limits g.session
all_at limits [] k g is all = absurd cc
all_at limits (h ∷ gs) zero g is (one, all) = rw (sym (some_same h g is)) one
all_at limits (h ∷ gs) (suc k) g is (one, all) = all_at limits gs k g is all

fits_or : (limits : LimitsValue) (o : Option FrontValue) → ∥ FitsFor limits o ∥₁ → FitsFor limits o
fits_or limits None fits = tt
fits_or limits (Some f) fits = ∥∥₁_elim fits (Prim.hlevel props) (λ it. it)

-- a connection that is in a place
pub fits_at : (limits : LimitsValue) (gs : List ConnectionState) (k : ℕ) (g : ConnectionState) → slice_get gs k ≡ Some g
    → ∥ AllByRecursion (FitsFor limits) (sessions_of gs) ∥₁ → FitsFor limits g.session
fits_at limits gs k g is all =
    fits_or limits g.session (∥∥₁_elim all ∥∥₁_prop (λ each. merely (all_at limits gs k g is each)))

pub fits_free : (limits : LimitsValue) (n : ℕ) → AllByRecursion (FitsFor limits) (sessions_of (free_connections n))
fits_free limits zero = tt
fits_free limits (suc n) = (tt, fits_free limits n)

-- ---- what is in a place

front_same : (o : Option FrontValue) → front_in (Some o) ≡ o
front_same None = refl
front_same (Some f) = refl

pub session_at : (gs : List ConnectionState) (k : ℕ) (g : ConnectionState) → slice_get gs k ≡ Some g
    → front_in (slice_get (sessions_of gs) k) ≡ g.session
session_at [] k g is = absurd cc
session_at (h ∷ gs) zero g is = front_same h.session ∙ ap (λ (x : ConnectionState). x.session) (some_same h g is)
session_at (h ∷ gs) (suc k) g is = session_at gs k g is

pub waits_at : (gs : List ConnectionState) (k : ℕ) (g : ConnectionState) → slice_get gs k ≡ Some g → waiting_at k (waiting_of gs) ≡ g.outbox
waits_at [] k g is = absurd cc
waits_at (h ∷ gs) zero g is = ap (λ (x : ConnectionState). x.outbox) (some_same h g is)
waits_at (h ∷ gs) (suc k) g is = waits_at gs k g is

pub session_back : (gs : List ConnectionState) (k : ℕ) (g : ConnectionState) → slice_get gs k ≡ Some g
    → set (sessions_of gs) k g.session ≡ sessions_of gs
session_back [] k g is = refl
session_back (h ∷ gs) zero g is = ap (λ (x : ConnectionState). x.session ∷ sessions_of gs) (sym (some_same h g is))
session_back (h ∷ gs) (suc k) g is = ap (λ (l : List (Option FrontValue)). h.session ∷ l) (session_back gs k g is)

pub now_there : (gs : List ConnectionState) (k : ℕ) (x : ConnectionState) → k < length gs → slice_get (set gs k x) k ≡ Some x
now_there [] k x within = absurd (omega arith)
now_there (h ∷ gs) zero x within = refl
now_there (h ∷ gs) (suc k) x within = now_there gs k x (omega arith)

pub waits_none : (gs : List ConnectionState) (k : ℕ) → slice_get gs k ≡ None → waiting_at k (waiting_of gs) ≡ []
waits_none [] k is = refl
waits_none (h ∷ gs) zero is = absurd cc
waits_none (h ∷ gs) (suc k) is = waits_none gs k is

-- ---- a connection is put into a place

-- the worker with this connection, and what waits for it, in a place
abbrev pub put_in : WorkerValue → ℕ → Option FrontValue → List ℕ → WorkerValue
put_in w k session waits =
    record { core = with_conn w.core k session; answers = set w.answers k waits; requests = w.requests }

abbrev of_lists : Client → List ℕ → List (Option FrontValue) → List (List ℕ) → WorkerValue
of_lists client requests conns answers =
    record { core = record { client = client_view client; conns = conns }; answers = answers; requests = requests }

put_state : (client : Client) (requests : List ℕ) (gs : List ConnectionState) (k : ℕ) (g : ConnectionState)
    → state_of client (set gs k g) requests ≡ put_in (state_of client gs requests) k g.session g.outbox
put_state client requests gs k g =
    ap (λ (conns : List (Option FrontValue)). of_lists client requests conns (waiting_of (set gs k g)))
    (map-set (λ (x : ConnectionState). x.session) gs k g)
    ∙ ap (of_lists client requests (set (sessions_of gs) k g.session)) (map-set (λ (x : ConnectionState). x.outbox) gs k g)

pub state_put : (client : Client) (requests : List ℕ) (gs new : List ConnectionState) (k : ℕ) (g : ConnectionState) → new ≡ set gs k g
    → state_of client new requests ≡ put_in (state_of client gs requests) k g.session g.outbox
state_put client requests gs new k g is =
    ap (λ (xs : List ConnectionState). state_of client xs requests) is ∙ put_state client requests gs k g

pub fits_put_is : (limits : LimitsValue) (gs new : List ConnectionState) (k : ℕ) (g : ConnectionState) → new ≡ set gs k g
    → FitsFor limits g.session → ∥ AllByRecursion (FitsFor limits) (sessions_of gs) ∥₁
    → ∥ AllByRecursion (FitsFor limits) (sessions_of new) ∥₁
fits_put_is limits gs new k g is this all = rw is (fits_put limits gs k g this all)

pub some_there : (gs : List ConnectionState) (k : ℕ) (d g : ConnectionState) → k < length gs → g ≡ get_or gs k d → slice_get gs k ≡ Some g
some_there [] k d g within is = absurd (omega arith)
some_there (h ∷ gs) zero d g within is = ap (λ (x : ConnectionState). Some x) (sym is)
some_there (h ∷ gs) (suc k) d g within is = some_there gs k d g (omega arith) is

-- past the places there is nothing
pub none_past : (gs : List ConnectionState) (k : ℕ) → length gs ≤ k → front_in (slice_get (sessions_of gs) k) ≡ None
none_past [] k far = refl
none_past (h ∷ gs) zero far = absurd (omega arith)
none_past (h ∷ gs) (suc k) far = none_past gs k (omega arith)

pub waits_past : (gs : List ConnectionState) (k : ℕ) → length gs ≤ k → waiting_at k (waiting_of gs) ≡ []
waits_past [] k far = refl
waits_past (h ∷ gs) zero far = absurd (omega arith)
waits_past (h ∷ gs) (suc k) far = waits_past gs k (omega arith)

set_past : (gs : List ConnectionState) (k : ℕ) (g : ConnectionState) → length gs ≤ k → set gs k g ≡ gs
set_past [] k g far = refl
set_past (h ∷ gs) zero g far = absurd (omega arith)
set_past (h ∷ gs) (suc k) g far = ap (λ (xs : List ConnectionState). h ∷ xs) (set_past gs k g (omega arith))

pub state_past : (client : Client) (requests : List ℕ) (gs : List ConnectionState) (k : ℕ) → length gs ≤ k
    → state_of client gs requests ≡ put_in (state_of client gs requests) k None []
state_past client requests gs k far = state_put client requests gs gs k free_connection (sym (set_past gs k free_connection far))

-- a connection is put into a place twice
pub put_twice : (gs mid new : List ConnectionState) (k : ℕ) (g h : ConnectionState) → mid ≡ set gs k g → new ≡ set mid k h → new ≡ set gs k h
put_twice gs mid new k g h first second = second ∙ ap (λ (xs : List ConnectionState). set xs k h) first ∙ set-set gs k g h

-- ---- new places

free_more : (n : ℕ) → free_connections n ++ free_connection ∷ [] ≡ free_connections (suc n)
free_more zero = refl
free_more (suc n) = ap (λ (gs : List ConnectionState). free_connection ∷ gs) (free_more n)

-- one more free place
pub free_grows : (gs more : List ConnectionState) (g : ConnectionState) → gs ≡ free_connections (length gs) → g ≡ free_connection
    → more ≡ gs ++ g ∷ [] → more ≡ free_connections (length more)
free_grows gs more g all is pushed =
    let longer : suc (length gs) ≡ length (gs ++ free_connection ∷ []) = omega (arith, length-append gs (free_connection ∷ [])) in
    rw (pushed, is) (ap (λ (xs : List ConnectionState). xs ++ free_connection ∷ []) all ∙ free_more (length gs) ∙ ap free_connections longer)

pub free_sessions : (n : ℕ) → sessions_of (free_connections n) ≡ nobody n
free_sessions zero = refl
free_sessions (suc n) = ap (λ (xs : List (Option FrontValue)). None ∷ xs) (free_sessions n)

pub free_waits : (n : ℕ) → waiting_of (free_connections n) ≡ nothing_waits n
free_waits zero = refl
free_waits (suc n) = ap (λ (xs : List (List ℕ)). [] ∷ xs) (free_waits n)
