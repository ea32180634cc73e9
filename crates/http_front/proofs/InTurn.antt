-- Heads in turn are the heads of a connection's bytes, and where two lists of asks differ in length the bytes end in a target.
use Rattle.std.proofs.Common.{◌≡◌, ◌∙◌, ◌⊎◌, inl, inr, ℕ, zero, suc, ◌-◌, ◌<◌, ◌≤◌, Bool, true, false, List, [], ◌∷◌, ◌++◌, length, take, drop, if◌then◌else◌, refl, ap, ap₂, sym, arith, append_assoc, length-append}
use Rattle.std.specs.Prelude.{MatchBool}
use Rattle.std.proofs.lemmas.List.{length-take, take-append-drop}
use Rattle.attributes.specs.Conn.{Facts}
use Rattle.attributes.specs.Limits.{LimitsValue}
use Rattle.attributes.specs.Request.{RequestValue}
use Rattle.httparse.specs.Grammar.{print_request}
use Rattle.http_front.specs.declared.ask.Ask.{Ask}
use Rattle.http_front.specs.declared.ask.Ask.TheVariants.{Judge, Fault}
use Rattle.http_front.specs.declared.fault.HeadFault.{HeadFault}
use Rattle.http_front.specs.Asks.{HasFault, HeadAsks, IsUnfinished}
use Rattle.http_front.specs.Bodies.{body_of}
use Rattle.http_front.specs.Closing.{closes}
use Rattle.http_front.specs.Head.{HeadValue}
use Rattle.http_front.specs.Heads.{Heads, IsAtRest, Kept, TakesAll, behind, closed, is_closed, passed, reading}
use Rattle.http_front.specs.InTurn.{AskInTurn, EndInTarget}
use Rattle.http_front.proofs.Rooms.{asks_or_fault, starts_head_unique}

-- ---- bodies

drop_front : (front back : List ℕ) → drop (length front) (front ++ back) ≡ back
drop_front [] back = refl
drop_front (x ∷ front) back = drop_front front back

drop_all : (n : ℕ) (bytes : List ℕ) → length bytes ≤ n → drop n bytes ≡ []
drop_all zero [] few = refl
drop_all zero (x ∷ bytes) few = absurd (omega (arith, few))
drop_all (suc n) [] few = refl
drop_all (suc n) (x ∷ bytes) few = drop_all n bytes (omega (arith, few))

same_front : (a b x y : List ℕ) → length a ≡ length b → a ++ x ≡ b ++ y → x ≡ y
same_front [] [] x y long is = is
same_front [] (c ∷ b) x y long is = absurd (omega (arith, long))
same_front (c ∷ a) [] x y long is = absurd (omega (arith, long))
same_front (c ∷ a) (d ∷ b) x y long is = let later : a ++ x ≡ b ++ y = cc in same_front a b x y (omega (arith, long)) later

le_or_lt : (n m : ℕ) → (n ≤ m) ⊎ (m < n)
le_or_lt zero m = inl (omega arith)
le_or_lt (suc n) zero = inr (omega arith)
le_or_lt (suc n) (suc m) = elim (le_or_lt n m) [
  | inl few ↦ inl (omega (arith, few))
  | inr many ↦ inr (omega (arith, many))
]

-- what is behind a whole body
passed_whole : (n : ℕ) (whole body rest : List ℕ) → whole ≡ body ++ rest → length body ≡ n
    → passed n whole ≡ reading 0 rest
passed_whole n whole body rest is long =
    let none : n - length whole ≡ 0 = omega (arith, long, ap length is, length-append body rest) in
    let back : drop n whole ≡ rest =
    ap₂ (λ (k : ℕ) (w : List ℕ). drop k w) (sym long) is ∙ drop_front body rest in
    ap₂ reading none back

-- what is behind a head
behind_closed : (h : HeadValue) (rest : List ℕ) → closes h ≡ true → behind h rest ≡ closed
behind_closed h rest is = ap (λ (b : Bool). if b then closed else passed (body_of h) rest) is

behind_open : (h : HeadValue) (rest : List ℕ) → closes h ≡ false → behind h rest ≡ passed (body_of h) rest
behind_open h rest is = ap (λ (b : Bool). if b then closed else passed (body_of h) rest) is

module _ (limits : LimitsValue) (facts : Facts) where
  -- ---- heads in turn are heads

  -- how a head that leaves its connection open goes on
  abbrev GoesOn : (bytes : List ℕ) (r : RequestValue) → HeadAsks bytes limits facts r → List Ask → Bool → Type 0
  GoesOn bytes r first asks is_done =
      ((body rest : List ℕ) × (first.rest ≡ body ++ rest) × (length body ≡ body_of first.head)
      × AskInTurn limits facts rest asks is_done)
      ⊎ ((length first.rest < body_of first.head) × (asks ≡ []) × (is_done ≡ false))

  -- a head, and the asks behind it
  head_then : (bytes : List ℕ) (r : RequestValue) (close : Bool) (asks : List Ask) (is_done : Bool) (end : Kept)
      (first : HeadAsks bytes limits facts r) → close ≡ closes first.head
      → TakesAll limits facts (behind first.head first.rest) asks end → IsAtRest limits facts end
      → is_done ≡ is_closed end → Heads limits facts bytes (Judge r close ∷ asks) is_done
  head_then bytes r close asks is_done end first shut all rests done =
      (end, (behind first.head first.rest, (refl, first, shut, refl), all), rests, done)

  of_turn : (bytes : List ℕ) (r : RequestValue) (close : Bool) (asks : List Ask) (is_done : Bool)
      (first : HeadAsks bytes limits facts r) → close ≡ closes first.head
      → ((rest : List ℕ) → AskInTurn limits facts rest asks is_done → Heads limits facts rest asks is_done)
      → MatchBool close ((asks ≡ []) × (is_done ≡ true)) (GoesOn bytes r first asks is_done)
      → Heads limits facts bytes (Judge r close ∷ asks) is_done
  of_turn bytes r true asks is_done first shut later (none, done) =
      let back : behind first.head first.rest ≡ closed = behind_closed first.head first.rest (sym shut) in
      rw none (head_then bytes r true [] is_done closed first shut (sym back) tt done)
  of_turn bytes r false asks is_done first shut later (inl (body, rest, cut, long, turn)) =
      let (end, all, rests, done) = later rest turn in
      let back : behind first.head first.rest ≡ reading 0 rest = behind_open first.head first.rest (sym shut)
      ∙ passed_whole (body_of first.head) first.rest body rest cut long in
      head_then bytes r false asks is_done end first shut (rw back all) rests done
  of_turn bytes r false asks is_done first shut later (inr (short, none, open')) =
      let end : Kept = passed (body_of first.head) first.rest in
      let back : behind first.head first.rest ≡ end = behind_open first.head first.rest (sym shut) in
      rw none (head_then bytes r false [] is_done end first shut (sym back) (inl (omega (arith, short))) open')

  pub heads_of_turns : (asks : List Ask) (bytes : List ℕ) (is_done : Bool) → AskInTurn limits facts bytes asks is_done
      → Heads limits facts bytes asks is_done
  heads_of_turns [] bytes is_done (half, open') = (reading 0 bytes, refl, inr half, open')
  heads_of_turns (Fault fault ∷ asks) bytes is_done (has, none, done) =
      rw none (closed, (closed, (refl, has, refl), refl), tt, done)
  heads_of_turns (Judge r close ∷ asks) bytes is_done (first, shut, more) =
      of_turn bytes r close asks is_done first shut (λ rest turn. heads_of_turns asks rest is_done turn) more

  -- ---- heads are heads in turn

  none_closed : (asks : List Ask) (end : Kept) → TakesAll limits facts closed asks end
      → (asks ≡ []) × (is_closed end ≡ true)
  none_closed [] end is = (refl, ap is_closed is)
  none_closed (ask ∷ asks) end (next, none, others) = absurd none

  none_pending : (asks : List Ask) (skip : ℕ) (bytes : List ℕ) (end : Kept) → 0 < skip
      → TakesAll limits facts (reading skip bytes) asks end → (asks ≡ []) × (is_closed end ≡ false)
  none_pending [] skip bytes end some is = (refl, ap is_closed is)
  none_pending (Judge r close ∷ asks) skip bytes end some (next, (none, first, shut, goes), others) =
      absurd (omega (arith, some, none))
  none_pending (Fault fault ∷ asks) skip bytes end some (next, (none, has, shut), others) =
      absurd (omega (arith, some, none))

  -- behind a head
  turn_of : (bytes : List ℕ) (r : RequestValue) (close : Bool) (asks : List Ask) (next end : Kept)
      (first : HeadAsks bytes limits facts r) → close ≡ closes first.head → next ≡ behind first.head first.rest
      → ((rest : List ℕ) → TakesAll limits facts (reading 0 rest) asks end
      → AskInTurn limits facts rest asks (is_closed end))
      → TakesAll limits facts next asks end
      → MatchBool close ((asks ≡ []) × (is_closed end ≡ true)) (GoesOn bytes r first asks (is_closed end))
  turn_of bytes r true asks next end first shut goes later all =
      let shuts : next ≡ closed = goes ∙ behind_closed first.head first.rest (sym shut) in
      none_closed asks end (rw shuts at all)
  turn_of bytes r false asks next end first shut goes later all =
      let whole : List ℕ = first.rest in
      let n : ℕ = body_of first.head in
      let passes : next ≡ passed n whole = goes ∙ behind_open first.head whole (sym shut) in
      elim (le_or_lt n (length whole)) [
        | inl few ↦
            let none : n - length whole ≡ 0 = omega (arith, few) in
            let taken : TakesAll limits facts (reading (n - length whole) (drop n whole)) asks end = rw passes at all in
            inl (
              take n whole,
              drop n whole,
              sym (take-append-drop n whole),
              omega (arith, few, length-take n whole),
              later (drop n whole) (rw none at taken),
            )
        | inr short ↦
            let ended = none_pending asks (n - length whole) (drop n whole) end (omega (arith, short))
            (rw passes at all) in
            inr (short, ended.0, ended.1)
      ]

  pub turns_of_heads : (asks : List Ask) (bytes : List ℕ) (end : Kept) → TakesAll limits facts (reading 0 bytes) asks end
      → IsAtRest limits facts end → AskInTurn limits facts bytes asks (is_closed end)
  turns_of_heads [] bytes end is rests = elim (rw is at rests) [
    | inl bad ↦ absurd (omega (arith, bad))
    | inr half ↦ (half, ap is_closed is)
  ]
  turns_of_heads (Fault fault ∷ asks) bytes end (next, (none, has, shut), all) rests =
      let ended = none_closed asks end (rw shut at all) in (has, ended.0, ended.1)
  turns_of_heads (Judge r close ∷ asks) bytes end (next, (none, first, shut, goes), all) rests = (
    first,
    shut,
    turn_of bytes r close asks next end first shut goes (λ rest taken. turns_of_heads asks rest end taken rests) all,
  )

  pub turns : (bytes : List ℕ) (asks : List Ask) (is_done : Bool)
      → (Heads limits facts bytes asks is_done → AskInTurn limits facts bytes asks is_done)
      × (AskInTurn limits facts bytes asks is_done → Heads limits facts bytes asks is_done)
  turns bytes asks is_done = (
    (λ (end, all, rests, done). rw done (turns_of_heads asks bytes end all rests)),
    heads_of_turns asks bytes is_done,
  )

  -- ---- asks that differ in length

  -- bytes that are unfinished and have a fault end in a target
  late : (bytes : List ℕ) (fault : HeadFault) → IsUnfinished bytes → HasFault bytes limits facts fault → EndInTarget bytes
  late bytes fault half has = elim has [
    | HasFault.hopeless part never e ↦ elim half.hope [
      | inl (more, h, reads) ↦ absurd (never more h [] reads)
      | inr target ↦ ([], bytes, refl, target)
    ]
    | HasFault.endless none long e ↦ absurd (omega (arith, half.in_room, long))
    | HasFault.broken h rest starts faults ↦ absurd (half.none starts.tree rest starts.reads)
  ]

  -- as many asks, or bytes that end in a target
  abbrev AsManyOrLate : List ℕ → List Ask → List Ask → Type 0
  AsManyOrLate bytes asks others = (length asks ≡ length others) ⊎ EndInTarget bytes

  one_more : (bytes front rest : List ℕ) (a b : Ask) (asks others : List Ask) → bytes ≡ front ++ rest
      → AsManyOrLate rest asks others → AsManyOrLate bytes (a ∷ asks) (b ∷ others)
  one_more bytes front rest a b asks others cut (inl same) = inl (ap suc same)
  one_more bytes front rest a b asks others cut (inr (before, back, is, target)) = inr (
    front ++ before,
    back,
    cut ∙ ap (λ (bs : List ℕ). front ++ bs) is ∙ sym (append_assoc front before back),
    target,
  )

  both_none : (bytes : List ℕ) (a b : Ask) (asks others : List Ask) → asks ≡ [] → others ≡ []
      → AsManyOrLate bytes (a ∷ asks) (b ∷ others)
  both_none bytes a b asks others none also = inl (ap (λ (xs : List Ask). suc (length xs)) (none ∙ sym also))

  two_turns : (bytes : List ℕ) (r q : RequestValue) (c d : Bool) (asks others : List Ask) (x y : Bool)
      (first : HeadAsks bytes limits facts r) (other : HeadAsks bytes limits facts q)
      → c ≡ closes first.head → d ≡ closes other.head → first.head ≡ other.head → first.rest ≡ other.rest
      → ((rest : List ℕ) → AskInTurn limits facts rest asks x → AskInTurn limits facts rest others y
      → AsManyOrLate rest asks others)
      → MatchBool c ((asks ≡ []) × (x ≡ true)) (GoesOn bytes r first asks x)
      → MatchBool d ((others ≡ []) × (y ≡ true)) (GoesOn bytes q other others y)
      → AsManyOrLate bytes (Judge r c ∷ asks) (Judge q d ∷ others)
  two_turns bytes r q true true asks others x y first other s t head rest later (none, a) (also, b) =
      both_none bytes (Judge r true) (Judge q true) asks others none also
  two_turns bytes r q true false asks others x y first other s t head rest later more also =
      let clash : true ≡ false = s ∙ ap closes head ∙ sym t in absurd cc
  two_turns bytes r q false true asks others x y first other s t head rest later more also =
      let clash : false ≡ true = s ∙ ap closes head ∙ sym t in absurd cc
  two_turns bytes r q false false asks others x y first other s t head rest later (inl (body, back, cut, long, turn))
      (inl (body', back', cut', long', turn')) =
      let size : body_of first.head ≡ body_of other.head = ap body_of head in
      let same : back ≡ back' = same_front body body' back back' (long ∙ size ∙ sym long')
      (sym cut ∙ rest ∙ cut') in
      let whole : bytes ≡ (print_request first.starts.tree ++ body) ++ back =
      first.starts.reads.1 ∙ ap (λ (bs : List ℕ). print_request first.starts.tree ++ bs) cut
      ∙ sym (append_assoc (print_request first.starts.tree) body back) in
      one_more bytes (print_request first.starts.tree ++ body) back (Judge r false) (Judge q false) asks others whole
      (later back turn (rw (sym same) at turn'))
  two_turns bytes r q false false asks others x y first other s t head rest later (inl (body, back, cut, long, turn))
      (inr (short, none, open')) =
      absurd (omega (arith, short, ap length rest, ap length cut, length-append body back, long, ap body_of head))
  two_turns bytes r q false false asks others x y first other s t head rest later (inr (short, none, open'))
      (inl (body, back, cut, long, turn)) =
      absurd (omega (arith, short, ap length rest, ap length cut, length-append body back, long, ap body_of head))
  two_turns bytes r q false false asks others x y first other s t head rest later (inr (short, none, open'))
      (inr (brief, also, opens)) = both_none bytes (Judge r false) (Judge q false) asks others none also

  many_or_late : (asks others : List Ask) (bytes : List ℕ) (x y : Bool) → AskInTurn limits facts bytes asks x
      → AskInTurn limits facts bytes others y → AsManyOrLate bytes asks others
  many_or_late [] [] bytes x y a b = inl refl
  many_or_late [] (Judge q d ∷ others) bytes x y (half, open') (other, t, also) =
      absurd (half.none other.starts.tree other.rest other.starts.reads)
  many_or_late [] (Fault fault ∷ others) bytes x y (half, open') (has, none, done) = inr (late bytes fault half has)
  many_or_late (Judge r c ∷ asks) [] bytes x y (first, s, more) (half, open') =
      absurd (half.none first.starts.tree first.rest first.starts.reads)
  many_or_late (Fault fault ∷ asks) [] bytes x y (has, none, done) (half, open') = inr (late bytes fault half has)
  many_or_late (Judge r c ∷ asks) (Fault fault ∷ others) bytes x y (first, s, more) (has, none, done) =
      absurd (asks_or_fault bytes limits facts r fault first has)
  many_or_late (Fault fault ∷ asks) (Judge q d ∷ others) bytes x y (has, none, done) (other, t, also) =
      absurd (asks_or_fault bytes limits facts q fault other has)
  many_or_late (Fault fault ∷ asks) (Fault also ∷ others) bytes x y (has, none, done) (had, empty, shut) =
      both_none bytes (Fault fault) (Fault also) asks others none empty
  many_or_late (Judge r c ∷ asks) (Judge q d ∷ others) bytes x y (first, s, more) (other, t, also) =
      let same = starts_head_unique bytes first.head other.head first.rest other.rest first.starts other.starts in
      two_turns bytes r q c d asks others x y first other s t same.0 same.1
      (λ rest turn turn'. many_or_late asks others rest x y turn turn') more also

  pub late_in_target : (bytes : List ℕ) (asks others : List Ask) (is_done was_done : Bool)
      → Heads limits facts bytes asks is_done → Heads limits facts bytes others was_done
      → (length asks ≡ length others) ⊎ EndInTarget bytes
  late_in_target bytes asks others is_done was_done a b =
      many_or_late asks others bytes is_done was_done ((turns bytes asks is_done).0 a) ((turns bytes others was_done).0 b)
