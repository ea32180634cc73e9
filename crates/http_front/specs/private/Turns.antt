-- What the code keeps of a connection, and its result for the first ask of some bytes.
use Rattle.std.specs.Prelude.{◌≡◌, ℕ, ◌+◌, ◌<◌, ◌≤◌, Bool, true, false, List, drop, length, take}
use Rattle.attributes.specs.Conn.{Facts}
use Rattle.attributes.specs.Limits.{LimitsValue}
use Rattle.httparse.specs.Grammar.{HasNoRequest, MayBecomeRequest}
use Rattle.http_front.specs.declared.ask.Ask.TheVariants as asks
use Rattle.http_front.specs.declared.fault.HeadFault.TheVariants.{TooLong}
use Rattle.http_front.specs.declared.head.Parsed.{Parsed}
use Rattle.http_front.specs.declared.read.HeadAsk.TheVariants as head_asks
use Rattle.http_front.specs.declared.turn.Turn.{Turn}
use Rattle.http_front.specs.declared.turn.Turn.TheVariants.{Rest, Close, Pass}
use Rattle.http_front.specs.Asks.{IsUnfinished}
use Rattle.http_front.specs.Bodies.{body_of}
use Rattle.http_front.specs.Closing.{closes}
use Rattle.http_front.specs.Front.{FrontValue}
use Rattle.http_front.specs.Head.{HeadValue, head_room}
use Rattle.http_front.specs.Heads.{IsAtRest, Kept, Takes, closed, passed, reading}
use Rattle.http_front.specs.private.Asks.{IsAskOf}
use Rattle.http_front.specs.private.Parsed.{IsParsed}

-- what the fields of a front mean
abbrev pub kept_of : Bool → ℕ → ℕ → List ℕ → Kept
kept_of true skip at bytes = closed
kept_of false skip at bytes = reading skip (drop at bytes)

-- a front of these parts
abbrev pub front_of : LimitsValue → Facts → Kept → FrontValue
front_of limits facts kept = record { limits = limits; facts = facts; kept = kept }

-- so many bytes are skipped
abbrev pub passing : ℕ → Kept → Kept
passing count (reading skip bytes) = passed count bytes
passing count closed = closed

-- the turn is the first ask of the bytes, or there is none yet
abbrev pub IsTurn : LimitsValue → Facts → List ℕ → Turn → Type 0
IsTurn limits facts bytes Rest = IsUnfinished bytes
IsTurn limits facts bytes (Close ask) = Takes limits facts (reading 0 bytes) ask closed
IsTurn limits facts bytes (Pass r n) =
    Takes limits facts (reading 0 bytes) (asks.Judge r false) (passed n bytes)

-- the first `n` bytes suffice for this turn; `Rest` if they do not
abbrev pub IsTurnOfFirst : LimitsValue → Facts → ℕ → List ℕ → Turn → Type 0
IsTurnOfFirst limits facts n bytes Rest = HasNoRequest (take n bytes) × MayBecomeRequest (take n bytes)
IsTurnOfFirst limits facts n bytes (Close ask) = Takes limits facts (reading 0 bytes) ask closed
IsTurnOfFirst limits facts n bytes (Pass r count) =
    Takes limits facts (reading 0 bytes) (asks.Judge r false) (passed count bytes)

-- this is the parser's result for the first `n` of some bytes, which are no more than a head may have
abbrev pub IsParsedOf : ℕ → Parsed → Type 0
IsParsedOf n parsed =
    (bytes : List ℕ) × (n ≤ length bytes) × (n ≤ head_room) × IsParsed (take n bytes) parsed

-- the turn of `n` bytes, by that of as many of them as a head may have. More bytes without a head are too long
abbrev pub IsTurnIn : ℕ → Turn → Turn → Type 0
IsTurnIn n Rest Rest = n ≤ head_room
IsTurnIn n Rest turn = (head_room < n) × (turn ≡ Close (asks.Fault TooLong))
IsTurnIn n turn result = result ≡ turn

-- the turn is the ask of a whole head of this size
abbrev pub IsTurnOf : LimitsValue → Facts → HeadValue → ℕ → Turn → Type 0
IsTurnOf limits facts h size Rest = ⊥
IsTurnOf limits facts h size (Close (asks.Judge r close)) =
    IsAskOf limits facts h (head_asks.Judge r) × (closes h ≡ true) × (close ≡ true)
IsTurnOf limits facts h size (Close (asks.Fault fault)) = IsAskOf limits facts h (head_asks.Fault fault)
IsTurnOf limits facts h size (Pass r n) =
    IsAskOf limits facts h (head_asks.Judge r) × (closes h ≡ false) × (n ≡ size + body_of h)

-- the turn is the first ask of what is kept, or there is none yet
abbrev pub IsNextTurn : LimitsValue → Facts → Kept → Turn → Type 0
IsNextTurn limits facts kept Rest = IsAtRest limits facts kept
IsNextTurn limits facts kept (Close ask) = Takes limits facts kept ask closed
IsNextTurn limits facts kept (Pass r n) =
    Takes limits facts kept (asks.Judge r false) (passing n kept)
