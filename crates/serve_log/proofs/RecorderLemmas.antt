-- What a record gets at an event, call after call.
use Rattle.std.proofs.Common.{◌≡◌, ◌≢◌, ◌⊎◌, ◌<◌, ◌≤◌, ◌++◌, ◌∙◌, ℕ, zero, suc, Bool, true, false, List, [], ◌∷◌, Option, None, Some, IsNone, IsSome, arith, inl, inr, is_some, length, length-set, not, refl, set, sym, ap, subst, true≢false}
use Rattle.attributes.specs.Conn.{Facts, conn_view}
use Rattle.proxy_core.specs.Events.{EventValue, http_closed, http_open}
use Rattle.serve_log.specs.Files.{AddsNothing, AddsToOne, OneTakes, files_of}
use Rattle.serve_log.specs.Recording.{Begins, Delivers, Ends, IsOut, Moves, Opens, Receives, Stays, connection_at}
use Rattle.serve_log.specs.declared.connection.Connection.{Connection}
use Rattle.serve_log.specs.declared.open_files.OpenFiles.{OpenFiles}
use Rattle.serve_log.proofs.OpenLemmas.{nothing_then, nothing_then_one}

pub not_true : (b : Bool) → not b ≡ true → b ≡ false
not_true true h = absurd (true≢false (sym h))
not_true false h = refl

pub not_false : (b : Bool) → not b ≡ false → b ≡ true
not_false true h = refl
not_false false h = absurd (true≢false h)

-- no connection is beyond the last place
pub place_past : (places : List (Option Connection)) (k : ℕ) → length places ≤ k → connection_at k places ≡ None
place_past [] k h = refl
place_past (place ∷ places) zero h = absurd (omega (arith, h))
place_past (place ∷ places) (suc k) h = place_past places k (omega (arith, h))

-- nothing is put there
pub set_past : (places : List (Option Connection)) (k : ℕ) (found : Option Connection) → length places ≤ k → set places k found ≡ places
set_past [] k found h = refl
set_past (place ∷ places) zero found h = absurd (omega (arith, h))
set_past (place ∷ places) (suc k) found h = ap (λ l. place ∷ l) (set_past places k found (omega (arith, h)))

-- a place with a connection is one of these places
pub place_room : (places : List (Option Connection)) (k : ℕ) → IsSome (connection_at k places) → k < length places
place_room [] k h = absurd cc
place_room (place ∷ places) zero h = omega arith
place_room (place ∷ places) (suc k) h =
    let below = place_room places k h in
    omega (arith, below)

-- also after it was taken out
pub taken_room : (places : List (Option Connection)) (k : ℕ) (connection : Connection) → connection_at k places ≡ Some connection
    → k < length (set places k None)
taken_room places k connection is =
    let below = place_room places k (ap is_some is) in
    let same = length-set places k None in
    omega (arith, below, same)

-- a place is empty after its connection was taken
pub place_taken : (places : List (Option Connection)) (k : ℕ) → connection_at k (set places k None) ≡ None
place_taken [] k = refl
place_taken (place ∷ places) zero = refl
place_taken (place ∷ places) (suc k) = place_taken places k

-- one empty place more
pub place_more : (places : List (Option Connection)) (k : ℕ) → connection_at k (places ++ None ∷ []) ≡ connection_at k places
place_more [] zero = refl
place_more [] (suc k) = refl
place_more (place ∷ places) zero = refl
place_more (place ∷ places) (suc k) = place_more places k

module _ {W : Type 0} (contents : W → Option (List ℕ)) where
  current_number : (number : ℕ) (events : List EventValue) (a b : OpenFiles W) (lost : ℕ)
      → OneTakes contents number events (files_of a) (files_of b) lost → b.current.number ≡ a.current.number
  current_number number events a b lost (inl (is, takes, rest)) = takes.number
  current_number number events a b lost (inr (other, takes, rest)) = takes.number

  current_out : (number : ℕ) (events : List EventValue) (a b : OpenFiles W) → number ≡ a.current.number
      → AddsToOne contents number events a b → IsOut number (files_of b) → b.current.is_whole ≡ false
  current_out number events a b is adds (inl (same, broken)) = broken
  current_out number events a b is adds (inr (other, rest)) =
      absurd (other (current_number number events a b adds.lost adds.takes ∙ sym is))

  -- a connection opened in the file that is written, or the file has lost a line
  pub opens_by : (connection moved : Connection) (number : ℕ) (is_there : Bool) (line : Option ℕ) (a b : OpenFiles W)
      → number ≡ a.current.number
      → AddsToOne contents number (http_open connection.number (conn_view connection.facts) ∷ []) a b
      → (IsNone line → IsOut number (files_of b)) → is_there ≡ is_some line
      → (moved.number ≡ connection.number) × (moved.facts ≡ connection.facts) × (moved.is_fresh ≡ connection.is_fresh)
      → (is_there ≡ true → moved.file ≡ number) → (is_there ≡ false → moved.file ≡ 0)
      → Opens contents connection moved a b
  opens_by connection moved number is_there line a b is adds out by_line same there lost =
      let events = http_open connection.number (conn_view connection.facts) ∷ [] in
      let by : (found : Bool) → is_there ≡ found
      → (moved.file ≡ a.current.number) ⊎ ((moved.file ≡ 0) × (b.current.is_whole ≡ false)) =
      λ found. elim found as (λ found. is_there ≡ found
      → (moved.file ≡ a.current.number) ⊎ ((moved.file ≡ 0) × (b.current.is_whole ≡ false))) [
        | true ↦ λ yes. inl (there yes ∙ is)
        | false ↦ λ none. inr (lost none, current_out number events a b is adds (out (sym by_line ∙ none)))
      ]
      in
      record {
        adds = subst (λ n. AddsToOne contents n events a b) is adds;
        file = by is_there refl;
        number = same.0;
        facts = same.1;
        is_fresh = same.2;
      }

  -- a connection opens after a call in which no file takes an event
  pub opens_after : (connection moved : Connection) (a b c : OpenFiles W) → AddsNothing contents 0 a b
      → Opens contents connection moved b c → Opens contents connection moved a c
  opens_after connection moved a b c h k =
      let same : b.current.number ≡ a.current.number = h.takes.0.number in
      let event = http_open connection.number (conn_view connection.facts) in
      let adds : AddsToOne contents a.current.number (event ∷ []) b c =
      subst (λ n. AddsToOne contents n (event ∷ []) b c) same k.adds in
      record {
        adds = nothing_then_one contents a b c a.current.number (event ∷ []) h adds;
        file = subst (λ n. (moved.file ≡ n) ⊎ ((moved.file ≡ 0) × (c.current.is_whole ≡ false))) same k.file;
        number = k.number;
        facts = k.facts;
        is_fresh = k.is_fresh;
      }

  -- a connection moves, or stays, after such a call
  pub moves_after : (connection moved : Connection) (a b c : OpenFiles W) → AddsNothing contents 0 a b
      → Moves contents connection moved b c → Moves contents connection moved a c
  moves_after connection moved a b c h (inl (same, nothing, stays)) =
      let number : b.current.number ≡ a.current.number = h.takes.0.number in
      inl (
        same,
        nothing_then contents a b c 0 h nothing,
        subst (λ n. (connection.is_fresh ≡ false) ⊎ (connection.file ≡ n)) number stays,
      )
  moves_after connection moved a b c h (inr (fresh, other, opens)) =
      let number : b.current.number ≡ a.current.number = h.takes.0.number in
      inr (fresh, subst (λ n. connection.file ≢ n) number other, opens_after connection moved a b c h opens)

  -- a connection that is open in the place after all this begins there
  pub begins_by : (number : ℕ) (facts : Facts) (given moved : Connection) (found : Option Connection) (a b c d : OpenFiles W)
      → given.number ≡ number → conn_view given.facts ≡ facts → given.is_fresh ≡ true → AddsNothing contents 0 a b
      → Opens contents given moved b c → AddsNothing contents 0 c d → found ≡ Some moved
      → Begins contents number facts found a d
  begins_by number facts given moved found a b c d is_number are_facts is_fresh first opens last is =
      let begins : Begins contents number facts (Some moved) a d =
      (given, is_number, are_facts, is_fresh, c, opens_after given moved a b c first opens, last) in
      rw is begins

  -- memory ran out for it
  pub begins_none : (number : ℕ) (facts : Facts) (found : Option Connection) (a b c : OpenFiles W)
      → AddsNothing contents 0 a b → AddsNothing contents 1 b c → found ≡ None → Begins contents number facts found a c
  begins_none number facts found a b c first lost is =
      let begins : Begins contents number facts None a c = nothing_then contents a b c 1 first lost in
      rw is begins

  -- the connection that was in the place delivered bytes
  pub receives_by : (bytes : List ℕ) (is_fresh is_recorded : Bool) (line : Option ℕ) (was found : Option Connection)
      (connection moved kept : Connection) (a b c d e : OpenFiles W)
      → AddsNothing contents 0 a b → Moves contents connection moved b c → Delivers contents moved bytes c d
      → (IsNone line → (bytes ≡ []) ⊎ IsOut moved.file (files_of d)) → AddsNothing contents 0 d e
      → (is_recorded ≡ false → IsNone line)
      → (kept.number ≡ moved.number) × (kept.facts ≡ moved.facts) × (kept.is_fresh ≡ is_fresh)
      → (is_recorded ≡ true → kept.file ≡ moved.file) → (is_recorded ≡ false → kept.file ≡ 0)
      → was ≡ Some connection → found ≡ Some kept
      → Receives contents bytes is_fresh was found a e
  receives_by bytes is_fresh is_recorded line was found connection moved kept a b c d e first moves delivers out last none same recorded lost was_is found_is =
      let by : (found : Bool) → is_recorded ≡ found
      → (kept.file ≡ moved.file) ⊎ ((kept.file ≡ 0) × ((bytes ≡ []) ⊎ IsOut moved.file (files_of d))) =
      λ found. elim found as (λ found. is_recorded ≡ found
      → (kept.file ≡ moved.file) ⊎ ((kept.file ≡ 0) × ((bytes ≡ []) ⊎ IsOut moved.file (files_of d)))) [
        | true ↦ λ yes. inl (recorded yes)
        | false ↦ λ no. inr (lost no, out (none no))
      ]
      in
      let receives : Receives contents bytes is_fresh (Some connection) (Some kept) a e = (
        moved,
        c,
        d,
        moves_after connection moved a b c first moves,
        record { delivers = delivers; number = same.0; facts = same.1; file = by is_recorded refl },
        last,
        same.2,
      ) in
      rw (was_is, found_is) receives

  -- no connection was there
  pub receives_none : (bytes : List ℕ) (is_fresh : Bool) (was found : Option Connection) (a b : OpenFiles W)
      → AddsNothing contents 0 a b → was ≡ None → found ≡ None → Receives contents bytes is_fresh was found a b
  receives_none bytes is_fresh was found a b nothing was_is found_is =
      let receives : Receives contents bytes is_fresh None None a b = (nothing, refl) in
      rw (was_is, found_is) receives

  -- the connection that was in the place is closed
  pub ends_by : (was : Option Connection) (connection : Connection) (a b c : OpenFiles W) → AddsNothing contents 0 a b
      → AddsToOne contents connection.file (http_closed connection.number ∷ []) b c → was ≡ Some connection
      → Ends contents was a c
  ends_by was connection a b c first adds is =
      let ends : Ends contents (Some connection) a c =
      nothing_then_one contents a b c connection.file (http_closed connection.number ∷ []) first adds in
      rw is ends

  -- there was none
  pub ends_none : (was : Option Connection) (a b : OpenFiles W) → AddsNothing contents 0 a b → was ≡ None
      → Ends contents was a b
  ends_none was a b nothing is =
      let ends : Ends contents None a b = nothing in
      rw is ends
