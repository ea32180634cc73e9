-- The bytes of a connection ask one thing.
use Rattle.std.proofs.Common.{◌≡◌, ◌∙◌, ℕ, Bool, inl, inr, List, [], ◌∷◌, refl, ap, ap₂, sym, arith}
use Rattle.attributes.specs.Conn.{Facts}
use Rattle.attributes.specs.Limits.{LimitsValue}
use Rattle.http_front.specs.declared.ask.Ask.{Ask}
use Rattle.http_front.specs.declared.ask.Ask.TheVariants.{Judge, Fault}
use Rattle.http_front.specs.declared.fault.HeadFault.{HeadFault}
use Rattle.http_front.specs.Asks.{HasFault, IsUnfinished}
use Rattle.http_front.specs.Closing.{closes}
use Rattle.http_front.specs.Heads.{AgreeWith, AgreesWith, Heads, IsAtRest, IsLateFault, IsMalformed, Kept, Takes, TakesAll, behind, closed, reading}
use Rattle.http_front.proofs.Rooms.{asks_or_fault, one_ask, starts_head_unique}

module _ (limits : LimitsValue) (facts : Facts) where
  -- the first ask of what is kept, and what is kept behind it
  takes_one : (old m n : Kept) (a b : Ask) → Takes limits facts old a m → Takes limits facts old b n
      → AgreesWith a b × (m ≡ n)
  takes_one (reading skip bytes) m n (Judge r close) (Judge q shut) (x0, x, x2, x3) (y0, y, y2, y3) =
      let same = starts_head_unique bytes x.head y.head x.rest y.rest x.starts y.starts in (
        (one_ask bytes limits facts r q x y, x2 ∙ ap closes same.0 ∙ sym y2),
        x3 ∙ ap₂ behind same.0 same.1 ∙ sym y3,
      )
  takes_one (reading skip bytes) m n (Judge r close) (Fault fault) (x0, x, x2, x3) (y0, y, y2) =
      absurd (asks_or_fault bytes limits facts r fault x y)
  takes_one (reading skip bytes) m n (Fault fault) (Judge r close) (x0, x, x2) (y0, y, y2, y3) =
      absurd (asks_or_fault bytes limits facts r fault y x)
  takes_one (reading skip bytes) m n (Fault fault) (Fault other) (x0, x, x2) (y0, y, y2) = (tt, x2 ∙ sym y2)
  takes_one closed m n a b none also = absurd none

  -- where bytes are unfinished, only a hopeless target has a fault
  late_fault : (bytes : List ℕ) (fault : HeadFault) → IsUnfinished bytes → HasFault bytes limits facts fault
      → IsMalformed fault
  late_fault bytes fault half has = elim has [
    | HasFault.hopeless part never e ↦ (part, e)
    | HasFault.endless none long e ↦ absurd (omega (arith, half.in_room, long))
    | HasFault.broken h rest starts faults ↦ absurd (half.none starts.tree rest starts.reads)
  ]

  -- what is taken where one is at rest
  rest_takes : (old next : Kept) (b : Ask) → IsAtRest limits facts old → Takes limits facts old b next
      → IsLateFault (b ∷ []) × (next ≡ closed)
  rest_takes (reading skip bytes) next (Judge r close) (inl some) (none, asks, shut, goes) =
      absurd (omega (arith, some, none))
  rest_takes (reading skip bytes) next (Fault fault) (inl some) (none, has, shut) = absurd (omega (arith, some, none))
  rest_takes (reading skip bytes) next (Judge r close) (inr half) (none, asks, shut, goes) =
      absurd (half.none asks.starts.tree asks.rest asks.starts.reads)
  rest_takes (reading skip bytes) next (Fault fault) (inr half) (none, has, shut) =
      (late_fault bytes fault half has, shut)
  rest_takes closed next b rest none = absurd none

  none_closed : (asks : List Ask) (end : Kept) → TakesAll limits facts closed asks end → asks ≡ []
  none_closed [] end is = refl
  none_closed (ask ∷ asks) end (next, none, others) = absurd none

  -- all that is taken where one is at rest
  rest_takes_all : (old end : Kept) (asks : List Ask) → IsAtRest limits facts old → TakesAll limits facts old asks end
      → IsLateFault asks
  rest_takes_all old end [] rest is = tt
  rest_takes_all old end (b ∷ bs) rest (next, first, more) =
      let late = rest_takes old next b rest first in
      let none : bs ≡ [] = none_closed bs end (rw late.1 at more) in
      rw none late.0

  takes_agree : (asks others : List Ask) (old end last : Kept) → TakesAll limits facts old asks end
      → IsAtRest limits facts end → TakesAll limits facts old others last → IsAtRest limits facts last
      → AgreeWith asks others
  takes_agree [] others old end last is rest also rest' = rest_takes_all old last others (rw is at rest) also
  takes_agree (a ∷ xs) [] old end last taken rest is rest' = rest_takes_all old end (a ∷ xs) (rw is at rest') taken
  takes_agree (a ∷ xs) (b ∷ bs) old end last (m, first, more) rest (n, first', more') rest' =
      let one = takes_one old m n a b first first' in
      (one.0, takes_agree xs bs n end last (rw one.1 at more) rest more' rest')

  pub heads_agree : (bytes : List ℕ) (asks others : List Ask) (is_done was_done : Bool)
      → Heads limits facts bytes asks is_done → Heads limits facts bytes others was_done → AgreeWith asks others
  heads_agree bytes asks others is_done was_done (end, x, rest, done) (last, y, rest', done') =
      takes_agree asks others (reading 0 bytes) end last x rest y rest'
