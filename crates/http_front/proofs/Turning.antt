-- What the first bytes say of all, and what the code keeps behind an ask.
use Rattle.std.proofs.Common.{◌≡◌, ◌∙◌, ℕ, ◌+◌, ◌-◌, ◌<◌, ◌≤◌, Bool, true, false, inl, inr, List, ◌++◌, length, min, take, drop, refl, ap, ap₂, sym, arith, length-append, All, get_or}
use Rattle.std.proofs.Math.Seq.{drop-append-add}
use Rattle.std.proofs.lemmas.List.{take_all, length-take-le, length-drop, drop-drop, drop_min, get_or_default}
use Rattle.attributes.specs.Conn.{Facts}
use Rattle.attributes.specs.Limits.{LimitsValue}
use Rattle.httparse.specs.Grammar.{HasNoRequest, MayBecomeRequest, NeverHasRequest, print_request}
use Rattle.http_front.specs.declared.ask.Ask.TheVariants as asks
use Rattle.http_front.specs.declared.fault.HeadFault.TheVariants.{BadLength, Malformed, TooLong}
use Rattle.http_front.specs.declared.fault.HeadFault.{HeadFault}
use Rattle.http_front.specs.declared.fault.HeadPart.{HeadPart}
use Rattle.http_front.specs.declared.scan.Scan.{Scan}
use Rattle.http_front.specs.declared.turn.Turn.{Turn}
use Rattle.http_front.specs.declared.turn.Turn.TheVariants.{Rest, Close, Pass}
use Rattle.http_front.specs.Asks.{HasFault, IsUnfinished}
use Rattle.http_front.specs.Bodies.{body_of}
use Rattle.http_front.specs.Head.{HeadValue, StartsHead, head_room}
use Rattle.http_front.specs.Heads.{IsAtRest, Takes, closed, fed, passed, reading}
use Rattle.http_front.specs.Rules.{IsBadLength, LinesFault, RuleFault, lines_of}
use Rattle.http_front.specs.private.Scans.{AreSeen, IsSeen}
use Rattle.http_front.specs.private.Turns.{IsNextTurn, IsTurn, IsTurnIn, IsTurnOf, IsTurnOfFirst, kept_of, passing}
use Rattle.http_front.proofs.Rooms.{never_has_request_from_take, none_in_room, starts_head_from_take}

-- a slice from a place on
pub all_behind : (at : ℕ) (items : List ℕ) → take (length items - at) (drop at items) ≡ drop at items
all_behind at items = take_all (length items - at) (drop at items) (omega (arith, length-drop at items))

-- a head of no fault has no bad length
pub good_lengths : (h : HeadValue) → ((fault : HeadFault) → ¬ (RuleFault h fault))
    → All (λ l. ¬ (IsBadLength l)) (lines_of h)
good_lengths h none k d inside bad =
    let line = get_or (lines_of h) k d in
    let at : get_or (lines_of h) k line ≡ line = get_or_default (lines_of h) k line d inside in
    none BadLength (RuleFault.lines (LinesFault.bad_length (k, line, inside, at, bad) refl))

-- how many bytes a head has that begins others
pub head_size : (bytes : List ℕ) (h : HeadValue) (rest : List ℕ) → StartsHead bytes h rest
    → (length rest ≤ length bytes) × (length bytes - length rest ≤ 65536)
head_size bytes h rest starts =
    let own = print_request starts.tree in
    let long = ap length starts.reads.1 ∙ length-append own rest in
    (omega (arith, long), omega (arith, long, starts.in_room))

-- what is behind a head and its body
passed_both : (bytes own rest : List ℕ) (body : ℕ) → bytes ≡ own ++ rest
    → passed (length own + body) bytes ≡ passed body rest
passed_both bytes own rest body same =
    let left : length own + body - length bytes ≡ body - length rest =
    omega (arith, ap length same, length-append own rest) in
    ap₂ reading left (ap (drop (length own + body)) same ∙ drop-append-add own rest body)

module _ (limits : LimitsValue) (facts : Facts) (n : ℕ) (bytes : List ℕ) where
  pub hopeless_turn : (part : HeadPart) → NeverHasRequest (take n bytes)
      → Takes limits facts (reading 0 bytes) (asks.Fault (Malformed part)) closed
  hopeless_turn part never =
      (refl, HasFault.hopeless part (never_has_request_from_take n bytes never) refl, refl)

  -- what a head of the first bytes asks
  pub head_turn : (h : HeadValue) (rest : List ℕ) (size : ℕ) (turn : Turn) → n ≤ length bytes
      → StartsHead (take n bytes) h rest → size ≡ n - length rest → IsTurnOf limits facts h size turn
      → IsTurnOfFirst limits facts n bytes turn
  head_turn h rest size Rest few starts long is = absurd is
  head_turn h rest size (Close (asks.Judge r close)) few starts long is = (
    refl,
    record {
      head = h;
      rest = rest ++ drop n bytes;
      starts = starts_head_from_take n bytes h rest starts;
      request = is.0.0;
      keeps_rules = is.0.1;
      in_limits = is.0.2;
    },
    is.2 ∙ sym is.1,
    rw is.1 refl,
  )
  head_turn h rest size (Close (asks.Fault fault)) few starts long is = (
    refl,
    HasFault.broken h (rest ++ drop n bytes) (starts_head_from_take n bytes h rest starts) is,
    refl,
  )
  head_turn h rest size (Pass r count) few starts long is =
      let all = starts_head_from_take n bytes h rest starts in
      let own = print_request all.tree in
      let inside : length rest ≤ n =
      omega (
        arith,
        ap length starts.reads.1,
        length-append (print_request starts.tree) rest,
        length-take-le n bytes few,
      ) in
      let whole : count ≡ length own + body_of h =
      omega (
        arith,
        few,
        inside,
        is.2,
        long,
        ap length all.reads.1,
        length-append own (rest ++ drop n bytes),
        length-append rest (drop n bytes),
        length-drop n bytes,
      ) in (
        refl,
        record {
          head = h;
          rest = rest ++ drop n bytes;
          starts = all;
          request = is.0.0;
          keeps_rules = is.0.1;
          in_limits = is.0.2;
        },
        sym is.1,
        ap (λ k. passed k bytes) whole
            ∙ passed_both bytes own (rest ++ drop n bytes) (body_of h) all.reads.1
            ∙ rw is.1 refl,
      )

module _ (limits : LimitsValue) (facts : Facts) (bytes : List ℕ) where
  -- where the first bytes tell a turn, it is that of all
  pub told_turn : (n : ℕ) (turn : Turn) → IsTurnOfFirst limits facts n bytes turn → (turn ≡ Rest → ⊥)
      → IsTurn limits facts bytes turn
  told_turn n Rest is told = absurd (told refl)
  told_turn n (Close ask) is told = is
  told_turn n (Pass r count) is told = is

  -- no turn of as many bytes as a head may have
  pub endless_turn : (n : ℕ) → n ≡ min (length bytes) head_room → HasNoRequest (take n bytes)
      → head_room < length bytes → Takes limits facts (reading 0 bytes) (asks.Fault TooLong) closed
  endless_turn n room none long =
      let all : n ≡ head_room = omega (arith, room, long) in
      (refl, HasFault.endless (none_in_room bytes (rw all at none)) long refl, refl)

  -- the turn of all, by that of as many bytes as a head may have
  pub turn_in : (n : ℕ) (turn told : Turn) → n ≡ min (length bytes) head_room
      → IsTurnOfFirst limits facts n bytes turn → IsTurnIn (length bytes) turn told
      → IsTurn limits facts bytes told
  turn_in n Rest Rest room is few =
      let all : n ≡ length bytes = omega (arith, room, few) in
      let half = rw (all, take_all (length bytes) bytes (omega arith)) at is in
      record { none = half.0; hope = half.1; in_room = few }
  turn_in n Rest (Close ask) room is told =
      let same : ask ≡ asks.Fault TooLong = cc in
      rw same (endless_turn n room is.0 told.0)
  turn_in n Rest (Pass r count) room is told = absurd cc
  turn_in n (Close ask) told room is same = rw same is
  turn_in n (Pass r count) told room is same = rw same is

module _ (limits : LimitsValue) (facts : Facts) where
  -- the first turn of what is kept
  pub turn_here : (shut : Bool) (skip at : ℕ) (items : List ℕ) (turn : Turn)
      → shut ≡ false → skip ≤ 0 → IsTurn limits facts (drop at items) turn
      → IsNextTurn limits facts (kept_of shut skip at items) turn
  turn_here true skip at items turn stays none is = absurd cc
  turn_here false skip at items Rest stays none is = inr is
  turn_here false skip at items (Close (asks.Judge r close)) stays none is = (omega (arith, none), is.1, is.2, is.3)
  turn_here false skip at items (Close (asks.Fault fault)) stays none is = (omega (arith, none), is.1, is.2)
  turn_here false skip at items (Pass r n) stays none is = (omega (arith, none), is.1, is.2, is.3)

  -- where nothing is to be looked for, there is no ask
  pub rest_here : (shut : Bool) (skip at : ℕ) (items : List ℕ) → (shut ≡ false → 0 < skip)
      → IsAtRest limits facts (kept_of shut skip at items)
  rest_here true skip at items some = tt
  rest_here false skip at items some = inl (some refl)

  -- bytes that were seen to go on are at rest
  pub open_rest : (shut : Bool) (skip at : ℕ) (items rest : List ℕ) → rest ≡ drop at items
      → length rest ≤ head_room → HasNoRequest rest × MayBecomeRequest rest
      → IsAtRest limits facts (kept_of shut skip at items)
  open_rest true skip at items rest same few half = tt
  open_rest false skip at items rest same few half =
      let unfinished : IsUnfinished rest = record { none = half.0; hope = half.1; in_room = few } in
      inr (rw same at unfinished)

-- what is kept behind an ask
pub kept_behind : (shut : Bool) (skip at count here : ℕ) (items : List ℕ) → at ≤ length items
    → here ≡ min count (length items - at)
    → kept_of shut (count - here) (at + here) items ≡ passing count (kept_of shut skip at items)
kept_behind true skip at count here items within is = refl
kept_behind false skip at count here items within is =
    let left : count - here ≡ count - length (drop at items) = omega (arith, is, length-drop at items) in
    let same : here ≡ min count (length (drop at items)) = omega (arith, is, length-drop at items) in
    let bytes : drop (at + here) items ≡ drop count (drop at items) =
    sym (drop-drop here at items) ∙ ap (λ k. drop k (drop at items)) same ∙ drop_min count (drop at items) in
    ap₂ reading left bytes

-- what is kept when bytes come
pub kept_fed : (shut : Bool) (skip passed at now : ℕ) (items others bytes : List ℕ) → shut ≡ false
    → passed ≡ min skip (length bytes) → drop now others ≡ drop at items ++ drop passed bytes
    → kept_of shut (skip - passed) now others ≡ fed (kept_of shut skip at items) bytes
kept_fed true skip passed at now items others bytes stays is joined = absurd cc
kept_fed false skip passed at now items others bytes stays is joined =
    let left : skip - passed ≡ skip - length bytes = omega (arith, is) in
    ap₂ reading left
    (joined ∙ ap (λ k. drop at items ++ drop k bytes) is
    ∙ ap (λ t. drop at items ++ t) (drop_min skip bytes))

-- all bytes were seen
pub seen_all : (scan : Scan) (rest bytes : List ℕ) → bytes ≡ rest → IsSeen scan bytes
    → AreSeen scan (length bytes) rest
seen_all scan rest bytes same is = (
  omega (arith, ap length same),
  rw (take_all (length bytes) rest (omega (arith, ap length same)), ← same) is,
)

-- those that were seen, in a slice
pub seen_first : (scan : Scan) (seen : ℕ) (rest bytes : List ℕ) → bytes ≡ rest → AreSeen scan seen rest
    → (seen ≤ length bytes) × IsSeen scan (take seen bytes)
seen_first scan seen rest bytes same is = rw same is
