-- The field lines of the head that bytes begin with, and those of the next request.
use Rattle.std.proofs.Common.{◌≡◌, ◌∙◌, ℕ, ◌<◌, Bool, true, false, Option, Some, None, List, ◌++◌, drop, length, min, option_map, take, ap, arith}
use Rattle.std.specs.Option.{is_some}
use Rattle.attributes.specs.Conn.{Facts}
use Rattle.attributes.specs.Headers.{Entry}
use Rattle.attributes.specs.Limits.{LimitsValue}
use Rattle.http_front.specs.declared.head.Parsed.{Parsed}
use Rattle.http_front.specs.declared.head.Parsed.TheVariants.{Hopeless, Unfinished, Whole}
use Rattle.http_front.specs.Head.{HeadValue, StartsHead, head_room}
use Rattle.http_front.specs.Heads.{reading}
use Rattle.http_front.specs.Lines.{AreHeadLines, AreLinesOf, AreNextLines}
use Rattle.http_front.specs.private.Asks.{IsNoHead}
use Rattle.http_front.specs.private.Parsed.{IsParsed}
use Rattle.http_front.specs.private.Turns.{front_of, kept_of}
use Rattle.http_front.proofs.Rooms.{not_hopeless, room_is, starts_head_from_take, starts_head_to_take, starts_head_unique}

-- the lines of the one head that bytes begin with
pub whole_lines : (bytes : List ℕ) (h : HeadValue) (rest : List ℕ) (found : Option (List Entry))
    → StartsHead bytes h rest → AreLinesOf h found → AreHeadLines bytes found
whole_lines bytes h rest (Some lines) starts is = (h, rest, starts, is)
whole_lines bytes h rest None starts is =
    λ k more other. rw (starts_head_unique bytes h k rest more starts other).0 at is

-- without a head there are none
pub no_lines : (bytes : List ℕ) (parsed : Parsed) → IsParsed bytes parsed → IsNoHead parsed → AreHeadLines bytes None
no_lines bytes (Whole h rest) is none = absurd none
no_lines bytes Unfinished is none = λ h rest starts. absurd (is.0 starts.tree rest starts.reads)
no_lines bytes (Hopeless part) is none = λ h rest starts. absurd (not_hopeless bytes h rest starts is)

-- lines that the first bytes have are those of all
pub lines_of_first : (n : ℕ) (bytes : List ℕ) (lines : List Entry) → AreHeadLines (take n bytes) (Some lines)
    → AreHeadLines bytes (Some lines)
lines_of_first n bytes lines (h, rest, starts, is) = (h, rest ++ drop n bytes, starts_head_from_take n bytes h rest starts, is)

-- the same, if lines were found
pub some_lines : {A : Type 0} (f : A → List Entry) (found : Option A) (n : ℕ) (bytes : List ℕ) → true ≡ is_some found
    → AreHeadLines (take n bytes) (option_map f found) → AreHeadLines bytes (option_map f found)
some_lines f (Some a) n bytes there is = lines_of_first n bytes (f a) is
some_lines f None n bytes there is = absurd cc

-- as many bytes as a head may have suffice
pub lines_of_room : (bytes : List ℕ) (n : ℕ) (found : Option (List Entry)) → n ≡ min (length bytes) head_room
    → AreHeadLines (take n bytes) found → AreHeadLines bytes found
lines_of_room bytes n (Some lines) same is = lines_of_first n bytes lines is
lines_of_room bytes n None same is = λ h rest starts.
    let cut = starts_head_to_take head_room bytes h rest (omega arith) starts in
    let room : take n bytes ≡ take head_room bytes = ap (λ k. take k bytes) same ∙ room_is head_room bytes in
    is h cut.0 (rw room cut.1)

module _ (limits : LimitsValue) (facts : Facts) where
  -- the lines of the head that the bytes begin with are the next ones
  next_lines : (skip : ℕ) (bytes : List ℕ) (found : Option (List Entry)) → AreHeadLines bytes found
      → AreNextLines (front_of limits facts (reading skip bytes)) found
  next_lines skip bytes (Some lines) (h, rest, starts, is) k more (none, other) =
      rw (starts_head_unique bytes h k rest more starts other).0 at is
  next_lines skip bytes None is h rest (none, starts) = is h rest starts

  pub lines_here : (is_closed : Bool) (skip at : ℕ) (items : List ℕ) (found : Option (List Entry))
      → AreHeadLines (drop at items) found
      → AreNextLines (front_of limits facts (kept_of is_closed skip at items)) found
  lines_here true skip at items found is = λ h rest starts. absurd starts
  lines_here false skip at items found is = next_lines skip (drop at items) found is

  -- a connection that closes has no next request, and one whose bytes are skipped has none yet
  pub no_lines_closed : (is_closed : Bool) (skip at : ℕ) (items : List ℕ) → is_closed ≡ true
      → AreNextLines (front_of limits facts (kept_of is_closed skip at items)) None
  no_lines_closed true skip at items is = λ h rest starts. absurd starts
  no_lines_closed false skip at items is = absurd cc

  pub no_lines_skipping : (is_closed : Bool) (skip at : ℕ) (items : List ℕ) → 0 < skip
      → AreNextLines (front_of limits facts (kept_of is_closed skip at items)) None
  no_lines_skipping true skip at items more = λ h rest starts. absurd starts
  no_lines_skipping false skip at items more = λ h rest starts. absurd (omega (arith, starts.0, more))
