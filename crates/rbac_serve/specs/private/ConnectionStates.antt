-- Connections in their places (this project's own).
use Rattle.std.specs.Prelude.{◌≡◌, ℕ, zero, suc, Bool, false, Option, Some, None, List, [], ◌∷◌, is_none}
use Rattle.ads.specs.Answer.{Accepted}
use Rattle.http_front.specs.Front.{FrontValue}
use Rattle.proxy_core.specs.Step.{AnswersBytes}
use Rattle.proxy_core.specs.declared.answered_ask.AnsweredAsk.{AnsweredAsk}
use Rattle.rbac_serve.specs.declared.connection.ConnectionState.{ConnectionState}

-- a place in which no connection is open, and nothing waits
abbrev pub free_connection : ConnectionState
free_connection = record { session = None; outbox = [] }

-- so many of them
abbrev pub free_connections : ℕ → List ConnectionState
free_connections zero = []
free_connections (suc n) = free_connection ∷ free_connections n

-- a connection, if one is open, takes bytes: their asks with the answers, these as bytes, the connection after them, and
-- whether it closes
abbrev pub AnswersConnection : Option FrontValue → Accepted → List ℕ → List AnsweredAsk → List ℕ → Option FrontValue → Bool → Type 0
AnswersConnection None accepted bytes answered_asks http after closes =
    (answered_asks ≡ []) × (http ≡ []) × (after ≡ None) × (closes ≡ false)
AnswersConnection (Some front) accepted bytes answered_asks http after closes =
    AnswersBytes accepted front bytes answered_asks http after × (closes ≡ is_none after)
