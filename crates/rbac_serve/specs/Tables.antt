-- What a worker keeps (this project's own).
use Rattle.std.specs.Prelude.{◌≡◌, ℕ, zero, suc, List, [], ◌∷◌, Option, Some, None, map, set, get_or, IfSome}
use Rattle.attributes.specs.Limits.{LimitsValue}
use Rattle.ads.specs.Config.{ConfigValue}
use Rattle.ads.specs.Ends.{client_view}
use Rattle.ads.specs.declared.client.Client.{Client}
use Rattle.http_front.specs.Front.{FrontValue}
use Rattle.http_front.specs.Heads.{reading, rest_of_body}
use Rattle.proxy_core.specs.Step.{ProxyValue, new_with, with_conn}
use Rattle.rbac_serve.specs.declared.connection.ConnectionState.{ConnectionState}

-- a worker: its core, the answers that wait for the connection in each place, and the requests that wait for the update
-- stream
pub record WorkerValue : Type 0 where
  pub core : ProxyValue
  pub answers : List (List ℕ)
  pub requests : List ℕ

-- nothing waits in so many places
abbrev pub nothing_waits : ℕ → List (List ℕ)
nothing_waits zero = []
nothing_waits (suc n) = [] ∷ nothing_waits n

-- a worker with so many places, to which nothing has happened
abbrev pub new_worker : ℕ → ConfigValue → WorkerValue
new_worker n c = record { core = new_with n c; answers = nothing_waits n; requests = [] }

-- the answers that wait in a place
abbrev pub waiting_at : ℕ → List (List ℕ) → List ℕ
waiting_at k answers = get_or answers k []

-- a connection is open, and is as a new one with its facts
abbrev pub IsFresh : Option FrontValue → Type 0
IsFresh None = ⊥
IsFresh (Some front) = front.kept ≡ reading 0 []

-- how many bytes are still to come of the body of a request that was answered; none without a connection
abbrev pub body_at : Option FrontValue → ℕ
body_at None = 0
body_at (Some front) = rest_of_body front.kept

-- the worker once the connection in the place was closed
abbrev pub closed_at : ℕ → WorkerValue → WorkerValue
closed_at k w =
    record { core = with_conn w.core k None; answers = set w.answers k []; requests = w.requests }

-- the connections, by place
abbrev pub sessions_of : List ConnectionState → List (Option FrontValue)
sessions_of connections = map (λ g. g.session) connections

-- the answers that wait, by place
abbrev pub waiting_of : List ConnectionState → List (List ℕ)
waiting_of connections = map (λ g. g.outbox) connections

-- a worker of these parts
abbrev pub state_of : Client → List ConnectionState → List ℕ → WorkerValue
state_of client connections requests = record {
  core = record { client = client_view client; conns = sessions_of connections };
  answers = waiting_of connections;
  requests = requests;
}

-- the connection, if one is open, has these limits
abbrev pub FitsFor : LimitsValue → Option FrontValue → Type 0
FitsFor limits session = IfSome session (λ f. f.limits ≡ limits)
