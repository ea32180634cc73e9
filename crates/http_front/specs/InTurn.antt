-- The asks in the bytes of a connection, head by head (RFC 9112, sections 2, 6.3 and 9.6). A law says that this is
-- `Heads`.
use Rattle.std.specs.Prelude.{◌≡◌, ℕ, ◌<◌, ◌⊎◌, Bool, true, false, List, [], ◌∷◌, ◌++◌, length, MatchBool}
use Rattle.attributes.specs.Conn.{Facts}
use Rattle.attributes.specs.Limits.{LimitsValue}
use Rattle.httparse.specs.Grammar.{EndsInTarget}
use Rattle.http_front.specs.declared.ask.Ask.{Ask}
use Rattle.http_front.specs.declared.ask.Ask.TheVariants.{Judge, Fault}
use Rattle.http_front.specs.Asks.{HasFault, HeadAsks, IsUnfinished}
use Rattle.http_front.specs.Bodies.{body_of}
use Rattle.http_front.specs.Closing.{closes}

-- these are the asks of the bytes, in order, and whether the connection closes after the last. The bytes begin with a
-- head that asks. If the connection closes, that is all; otherwise its body and further asks follow, or only a part of
-- its body. Or the bytes have a fault, or no head is complete
abbrev pub AskInTurn : LimitsValue → Facts → List ℕ → List Ask → Bool → Type 0
AskInTurn limits facts bytes [] is_done = IsUnfinished bytes × (is_done ≡ false)
AskInTurn limits facts bytes (Fault fault ∷ asks) is_done =
    HasFault bytes limits facts fault × (asks ≡ []) × (is_done ≡ true)
AskInTurn limits facts bytes (Judge r close ∷ asks) is_done =
    (first : HeadAsks bytes limits facts r) × (close ≡ closes first.head) × MatchBool close
    ((asks ≡ []) × (is_done ≡ true))
    (((body rest : List ℕ) × (first.rest ≡ body ++ rest) × (length body ≡ body_of first.head)
    × AskInTurn limits facts rest asks is_done)
    ⊎ ((length first.rest < body_of first.head) × (asks ≡ []) × (is_done ≡ false)))

-- the bytes end inside a target
abbrev pub EndInTarget : List ℕ → Type 0
EndInTarget bytes = (front back : List ℕ) × (bytes ≡ front ++ back) × EndsInTarget back
