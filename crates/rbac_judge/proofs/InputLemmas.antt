-- What the bytes that an input begins with say of all of it, and what a front says of them.
use Rattle.std.proofs.Common.{◌≡◌, ◌-◌, ◌++◌, ℕ, List, [], ◌∷◌, Option, Some, None, inl, inr, ap, append-nil, arith, length, refl, subst}
use Rattle.std.specs.Io.KnownBytes.{Consumes, IsAtEnd}
use Rattle.std.proofs.KnownBytes.{Consumes-trans}
use Rattle.attributes.specs.Conn.{Facts}
use Rattle.attributes.specs.Limits.{LimitsValue}
use Rattle.http_front.specs.Asks.{IsUnfinished}
use Rattle.http_front.specs.Front.{FrontValue, HasNoAsk, TakesNext, fed_front}
use Rattle.http_front.specs.Heads.{reading}
use Rattle.http_front.specs.declared.ask.Ask.{Ask}
use Rattle.http_front.specs.declared.ask.Ask.TheVariants as asks
use Rattle.http_front.specs.declared.read.HeadAsk.{HeadAsk}
use Rattle.http_front.specs.declared.read.HeadAsk.TheVariants.{Judge, Fault}
use Rattle.http_front.proofs.Rooms.{asks_append, has_fault_append}
use Rattle.rbac_judge.specs.Judging.{IsAllOf}
use Rattle.rbac_judge.specs.private.Reading.{IsFound, IsJustEnough, head_ask}

-- nothing is just enough where nothing was looked at
pub nothing_read : IsJustEnough []
nothing_read =
    record { before = []; last = []; whole = refl; few = omega arith; needed = λ some. absurd (some refl) }

-- a read that gave nothing took nothing
pub consumed_none : (known mid left : Option (List ℕ)) (bytes chunk : List ℕ) (n : ℕ) → Consumes known mid bytes
    → Consumes mid left chunk → n ≡ length chunk → n ≡ 0 → Consumes known left bytes
consumed_none known mid left bytes [] n taken last count none =
    subst (Consumes known left) (append-nil bytes) (Consumes-trans known mid left bytes [] taken last)
consumed_none known mid left bytes (b ∷ bs) n taken last count none = absurd (omega (arith, count, none))

module _ (limits : LimitsValue) (facts : Facts) where
  -- bytes behind the front change nothing of what it asks
  found_more : (front rest : List ℕ) (ask : HeadAsk) → IsFound limits facts front (Some ask)
      → IsFound limits facts (front ++ rest) (Some ask)
  found_more front rest (Judge r) is = record {
    judged = asks_append front rest limits facts r is.judged;
    fault = tt;
    none = tt;
  }
  found_more front rest (Fault fault) is = record {
    judged = tt;
    fault = has_fault_append front rest limits facts fault is.fault;
    none = tt;
  }

  -- so what was taken of an input decides for all of it
  pub found_of_taken : (known left : Option (List ℕ)) (front : List ℕ) (ask : HeadAsk)
      → Consumes known left front → IsFound limits facts front (Some ask)
      → (bytes : List ℕ) × IsAllOf known bytes × IsFound limits facts bytes (Some ask)
  found_of_taken None left front ask taken is = (front, tt, is)
  found_of_taken (Some bytes) None front ask taken is = absurd taken
  found_of_taken (Some bytes) (Some rest) front ask taken is =
      (bytes, refl, rw taken (found_more front rest ask is))

  -- and where that is all, and unfinished, nothing is asked
  pub none_of_all : (known left : Option (List ℕ)) (front : List ℕ) → Consumes known left front
      → IsAtEnd left → IsUnfinished front
      → (bytes : List ℕ) × IsAllOf known bytes × IsFound limits facts bytes None
  none_of_all None left front taken end half = (front, tt, record { judged = tt; fault = tt; none = half })
  none_of_all (Some bytes) None front taken end half = absurd taken
  none_of_all (Some bytes) (Some rest) front taken end half =
      (bytes, refl, record { judged = tt; fault = tt; none = rw (taken, end, append-nil) half })

  -- the front that these bytes were fed, before its first ask
  abbrev pub front_with : List ℕ → FrontValue
  front_with bytes = record { limits = limits; facts = facts; kept = reading 0 bytes }

  -- what it asks, the head asks that the bytes begin with
  pub found_of_front : (bytes : List ℕ) (ask : Ask) (new : FrontValue)
      → TakesNext (front_with bytes) (Some ask) new → IsFound limits facts bytes (Some (head_ask ask))
  found_of_front bytes (asks.Judge r close) new takes = record { judged = takes.0.1; fault = tt; none = tt }
  found_of_front bytes (asks.Fault fault) new takes = record { judged = tt; fault = takes.0.1; none = tt }

  -- it asks for nothing only where the head goes on behind the bytes
  pub unfinished_of_front : (bytes : List ℕ) → HasNoAsk (front_with bytes) → IsUnfinished bytes
  unfinished_of_front bytes rest = elim rest [ inl more ↦ absurd (omega (arith, more)) | inr half ↦ half ]

  -- further bytes are all kept
  pub front_fed : (bytes more : List ℕ) → fed_front (front_with bytes) more ≡ front_with (bytes ++ more)
  front_fed bytes more =
      let none : 0 - length more ≡ 0 = omega arith in
      ap (λ n. record { limits = limits; facts = facts; kept = reading n (bytes ++ more) }) none
