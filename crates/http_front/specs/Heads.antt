-- The asks in the bytes of a connection, which are heads, each with its body (RFC 9112, sections 2, 6.3 and 9.6).
use Rattle.std.specs.Prelude.{◌≡◌, ℕ, ◌+◌, ◌-◌, ◌<◌, ◌⊎◌, ⊤, Bool, true, false, List, [], ◌∷◌, ◌++◌, length, drop, if◌then◌else◌}
use Rattle.attributes.specs.Conn.{Facts}
use Rattle.attributes.specs.Limits.{LimitsValue}
use Rattle.http_front.specs.declared.ask.Ask.{Ask}
use Rattle.http_front.specs.declared.ask.Ask.TheVariants.{Judge, Fault}
use Rattle.http_front.specs.declared.fault.HeadFault.{HeadFault}
use Rattle.http_front.specs.declared.fault.HeadFault.TheVariants.{Malformed}
use Rattle.http_front.specs.declared.fault.HeadPart.{HeadPart}
use Rattle.http_front.specs.Asks.{HasFault, HeadAsks, IsUnfinished}
use Rattle.http_front.specs.Bodies.{body_of}
use Rattle.http_front.specs.Closing.{closes}
use Rattle.http_front.specs.Head.{HeadValue}

-- what is kept: the number of a body's bytes still to be skipped, and the bytes that were not taken yet. Nothing,
-- if the connection closes
pub data Kept : Type 0 where
  reading : ℕ → List ℕ → Kept
  closed : Kept

-- what is kept after further bytes; bytes of a body are skipped
abbrev pub fed : Kept → List ℕ → Kept
fed (reading skip rest) bytes = reading (skip - length bytes) (rest ++ drop skip bytes)
fed closed bytes = closed

-- how many bytes of a body are still to be skipped
abbrev pub rest_of_body : Kept → ℕ
rest_of_body (reading skip rest) = skip
rest_of_body closed = 0

-- what is kept after the first `n` bytes are skipped; some of them may be still to come
abbrev pub passed : ℕ → List ℕ → Kept
passed n bytes = reading (n - length bytes) (drop n bytes)

-- what is kept after the head, if these bytes follow it
abbrev pub behind : HeadValue → List ℕ → Kept
behind h rest = if closes h then closed else passed (body_of h) rest

-- the first ask of what is kept, and what is kept after it; nothing follows a fault
abbrev pub Takes : LimitsValue → Facts → Kept → Ask → Kept → Type 0
Takes limits facts (reading skip bytes) (Judge r close) new =
    (skip ≡ 0) × (asks : HeadAsks bytes limits facts r) × (close ≡ closes asks.head)
    × (new ≡ behind asks.head asks.rest)
Takes limits facts (reading skip bytes) (Fault fault) new =
    (skip ≡ 0) × HasFault bytes limits facts fault × (new ≡ closed)
Takes limits facts closed ask new = ⊥

-- the first asks, in order, and what is kept after them
abbrev pub TakesAll : LimitsValue → Facts → Kept → List Ask → Kept → Type 0
TakesAll limits facts old [] new = new ≡ old
TakesAll limits facts old (ask ∷ asks) new =
    (next : Kept) × Takes limits facts old ask next × TakesAll limits facts next asks new

-- there is no next ask yet: a body or a head is incomplete. Once the connection closes, there is none at all
abbrev pub IsAtRest : LimitsValue → Facts → Kept → Type 0
IsAtRest limits facts (reading skip bytes) = (0 < skip) ⊎ IsUnfinished bytes
IsAtRest limits facts closed = ⊤

-- the connection closes after the asks that were taken
abbrev pub is_closed : Kept → Bool
is_closed (reading skip bytes) = false
is_closed closed = true

-- these are all asks of a connection's bytes, in order, and whether the connection closes after the last
abbrev pub Heads : LimitsValue → Facts → List ℕ → List Ask → Bool → Type 0
Heads limits facts bytes asks is_done =
    (end : Kept) × TakesAll limits facts (reading 0 bytes) asks end × IsAtRest limits facts end
    × (is_done ≡ is_closed end)

-- a size of what is kept, which each ask decreases
abbrev pub size_of_kept : Kept → ℕ
size_of_kept (reading skip bytes) = 1 + length bytes
size_of_kept closed = 0

-- the fault of bytes that can become no head
abbrev pub IsMalformed : HeadFault → Type 0
IsMalformed fault = (part : HeadPart) × (fault ≡ Malformed part)

-- both ask for the same request, or both are faults; if there are several faults, either may be named
abbrev pub AgreesWith : Ask → Ask → Type 0
AgreesWith (Judge r close) (Judge q shut) = (r ≡ q) × (close ≡ shut)
AgreesWith (Fault fault) (Fault other) = ⊤
AgreesWith ask other = ⊥

-- there is no ask, or only the fault of bytes that can become no head
abbrev pub IsLateFault : List Ask → Type 0
IsLateFault [] = ⊤
IsLateFault (Fault fault ∷ []) = IsMalformed fault
IsLateFault asks = ⊥

-- the asks agree in order. One list may have one more: the fault of bytes that end inside a target, for whose end
-- the other still waits
abbrev pub AgreeWith : List Ask → List Ask → Type 0
AgreeWith [] others = IsLateFault others
AgreeWith (ask ∷ asks) [] = IsLateFault (ask ∷ asks)
AgreeWith (ask ∷ asks) (other ∷ others) = AgreesWith ask other × AgreeWith asks others
