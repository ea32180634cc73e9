-- The field lines of the head that some bytes begin with, and of the next request of a front (RFC 9112, section 5).
use Rattle.std.specs.Prelude.{◌≡◌, ℕ, List, Option, Some, None}
use Rattle.attributes.specs.Headers.{Entry}
use Rattle.http_front.specs.declared.fault.HeadFault.{HeadFault}
use Rattle.http_front.specs.Front.{FrontValue}
use Rattle.http_front.specs.Head.{HeadValue, StartsHead}
use Rattle.http_front.specs.Heads.{Kept, closed, reading}
use Rattle.http_front.specs.Rules.{RuleFault, lines_of}

-- the lines of the head; none if it breaks a rule
abbrev pub AreLinesOf : HeadValue → Option (List Entry) → Type 0
AreLinesOf h (Some lines) = ((fault : HeadFault) → ¬ (RuleFault h fault)) × (lines ≡ lines_of h)
AreLinesOf h None = (fault : HeadFault) × RuleFault h fault

-- the lines of the head that the bytes begin with; none if they begin with no head, or with one that breaks a rule
abbrev pub AreHeadLines : List ℕ → Option (List Entry) → Type 0
AreHeadLines bytes (Some lines) =
    (h : HeadValue) × (rest : List ℕ) × StartsHead bytes h rest × AreLinesOf h (Some lines)
AreHeadLines bytes None = (h : HeadValue) (rest : List ℕ) → StartsHead bytes h rest → AreLinesOf h None

-- what is kept begins with this head
abbrev pub StartsNext : Kept → HeadValue → List ℕ → Type 0
StartsNext (reading skip bytes) h rest = (skip ≡ 0) × StartsHead bytes h rest
StartsNext closed h rest = ⊥

-- if what is kept begins with a head, these are its lines; none if it breaks a rule
abbrev pub AreNextLines : FrontValue → Option (List Entry) → Type 0
AreNextLines front found = (h : HeadValue) (rest : List ℕ) → StartsNext front.kept h rest
    → AreLinesOf h found
