-- A front: what it keeps of a connection, and the effects of calls on it.
use Rattle.std.specs.Prelude.{◌≡◌, ℕ, Option, Some, None, List, [], ◌∷◌, ◌++◌}
use Rattle.attributes.specs.Conn.{Facts}
use Rattle.attributes.specs.Limits.{LimitsValue}
use Rattle.http_front.specs.declared.ask.Ask.{Ask}
use Rattle.http_front.specs.Heads.{IsAtRest, Kept, Takes, fed, reading}

-- the limits of requests, the facts of the connection, and what is kept of its bytes
pub record FrontValue : Type 0 where
  pub limits : LimitsValue
  pub facts : Facts
  pub kept : Kept

-- a front that has received no bytes
abbrev pub new_front : LimitsValue → Facts → FrontValue
new_front limits facts = record { limits = limits; facts = facts; kept = reading 0 [] }

-- the front, with this kept instead
abbrev pub keeping : FrontValue → Kept → FrontValue
keeping front kept = record front { kept = kept }

-- the front after further bytes
abbrev pub fed_front : FrontValue → List ℕ → FrontValue
fed_front front bytes = keeping front (fed front.kept bytes)

-- the front has no next ask yet
abbrev pub HasNoAsk : FrontValue → Type 0
HasNoAsk front = IsAtRest front.limits front.facts front.kept

-- the next ask is taken; or there is none yet, and nothing changes
abbrev pub TakesNext : FrontValue → Option Ask → FrontValue → Type 0
TakesNext old (Some ask) new =
    Takes old.limits old.facts old.kept ask new.kept × (new ≡ keeping old new.kept)
TakesNext old None new = HasNoAsk old × (new ≡ old)

-- a call: it feeds these bytes, or takes the next ask, with this result
pub data Call : Type 0 where
  feeds : List ℕ → Call
  takes : Option Ask → Call

-- the call changes the front like this
abbrev pub Steps : FrontValue → Call → FrontValue → Type 0
Steps old (feeds bytes) new = new ≡ fed_front old bytes
Steps old (takes answer) new = TakesNext old answer new

-- calls, in order
abbrev pub Runs : FrontValue → List Call → FrontValue → Type 0
Runs old [] new = new ≡ old
Runs old (call ∷ calls) new = (next : FrontValue) × Steps old call next × Runs next calls new

-- all bytes that the calls fed
abbrev pub bytes_fed : List Call → List ℕ
bytes_fed [] = []
bytes_fed (feeds bytes ∷ calls) = bytes ++ bytes_fed calls
bytes_fed (takes answer ∷ calls) = bytes_fed calls

-- all asks that the calls took
abbrev pub asks_taken : List Call → List Ask
asks_taken [] = []
asks_taken (feeds bytes ∷ calls) = asks_taken calls
asks_taken (takes (Some ask) ∷ calls) = ask ∷ asks_taken calls
asks_taken (takes None ∷ calls) = asks_taken calls
