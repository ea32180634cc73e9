-- Asks of the first bytes, and then of those behind them, are the asks of all.
use Rattle.std.proofs.Common.{◌≡◌, ◌∙◌, ℕ, zero, suc, ◌+◌, ◌-◌, ◌<◌, Bool, true, false, Some, None, List, [], ◌∷◌, ◌++◌, length, drop, if◌then◌else◌, refl, ap, ap₂, sym, arith, append_assoc, append-nil, length-append, length-drop}
use Rattle.attributes.specs.Conn.{Facts}
use Rattle.attributes.specs.Limits.{InLimits, LimitsValue}
use Rattle.attributes.specs.Request.{RequestValue}
use Rattle.httparse.specs.Grammar.{RequestHead, print_request}
use Rattle.httparse.proofs.GrammarLemmas.{print_request-append}
use Rattle.http_front.specs.declared.ask.Ask.{Ask}
use Rattle.http_front.specs.declared.ask.Ask.TheVariants.{Judge, Fault}
use Rattle.http_front.specs.Bodies.{body_of}
use Rattle.http_front.specs.Closing.{closes}
use Rattle.http_front.specs.Front.{Call, FrontValue, Runs, asks_taken, bytes_fed, feeds, new_front, takes}
use Rattle.http_front.specs.Head.{HeadValue}
use Rattle.http_front.specs.Heads.{Heads, IsAtRest, Kept, Takes, TakesAll, behind, closed, fed, is_closed, passed, reading, size_of_kept}
use Rattle.http_front.proofs.Rooms.{has_fault_append, starts_head_append}

-- what is behind some of two lists
drop_append : (n : ℕ) (xs ys : List ℕ) → drop n (xs ++ ys) ≡ drop n xs ++ drop (n - length xs) ys
drop_append zero xs ys =
    let none : 0 - length xs ≡ 0 = omega arith in
    rw none refl
drop_append (suc n) [] ys =
    let all : suc n - 0 ≡ suc n = omega arith in
    rw all refl
drop_append (suc n) (x ∷ xs) ys =
    let less : suc n - length (x ∷ xs) ≡ n - length xs = omega arith in
    rw less (drop_append n xs ys)

drop_none : (n : ℕ) (xs : List ℕ) → xs ++ drop n [] ≡ xs
drop_none zero xs = append-nil xs
drop_none (suc n) xs = append-nil xs

-- no bytes change nothing
fed_none : (old : Kept) → fed old [] ≡ old
fed_none (reading skip rest) =
    let left : skip - 0 ≡ skip = omega arith in
    ap₂ reading left (drop_none skip rest)
fed_none closed = refl

-- where no body is to be passed over, all bytes are kept
fed_all : (bytes more : List ℕ) → fed (reading 0 bytes) more ≡ reading 0 (bytes ++ more)
fed_all bytes more =
    let none : 0 - length more ≡ 0 = omega arith in
    ap (λ n. reading n (bytes ++ more)) none

-- bytes that come in two parts
fed_twice : (old : Kept) (a b : List ℕ) → fed (fed old a) b ≡ fed old (a ++ b)
fed_twice (reading skip rest) a b =
    let left : skip - length a - length b ≡ skip - length (a ++ b) = omega (arith, length-append a b) in
    let bytes : (rest ++ drop skip a) ++ drop (skip - length a) b ≡ rest ++ drop skip (a ++ b) =
    append_assoc rest (drop skip a) (drop (skip - length a) b)
    ∙ ap (λ t. rest ++ t) (sym (drop_append skip a b)) in
    ap₂ reading left bytes
fed_twice closed a b = refl

-- what is behind some bytes, when more come
passed_more : (n : ℕ) (bytes more : List ℕ) → fed (passed n bytes) more ≡ passed n (bytes ++ more)
passed_more n bytes more =
    let left : n - length bytes - length more ≡ n - length (bytes ++ more) =
    omega (arith, length-append bytes more) in
    ap₂ reading left (sym (drop_append n bytes more))

-- what is behind a head, when more come
behind_more : (h : HeadValue) (rest more : List ℕ) → fed (behind h rest) more ≡ behind h (rest ++ more)
behind_more h rest more = by_test (closes h)
  where
    by_test : (close : Bool) → fed (if close then closed else passed (body_of h) rest) more
        ≡ (if close then closed else passed (body_of h) (rest ++ more))
    by_test true = refl
    by_test false = passed_more (body_of h) rest more

-- a head has some bytes
some_head : (tree : RequestHead) → 0 < length (print_request tree)
some_head tree = from_space (print_request tree) _ _ _ (print_request-append tree [])
  where
    from_space : (whole blank method rest : List ℕ) → whole ++ [] ≡ blank ++ (method ++ 32 ∷ rest) → 0 < length whole
    from_space whole blank method rest is = omega (
      arith,
      ap length is,
      length-append whole [],
      length-append blank (method ++ 32 ∷ rest),
      length-append method (32 ∷ rest),
    )

module _ (limits : LimitsValue) (facts : Facts) where
  -- the first ask stays when more bytes come
  takes_more : (old : Kept) (more : List ℕ) (ask : Ask) (next : Kept) → Takes limits facts old ask next
      → Takes limits facts (fed old more) ask (fed next more)
  takes_more (reading skip bytes) more (Judge r close) next (none, asks, shut, goes) = rw none (
    omega arith,
    record {
      head = asks.head;
      rest = asks.rest ++ more;
      starts = starts_head_append bytes more asks.head asks.rest asks.starts;
      request = asks.request;
      keeps_rules = asks.keeps_rules;
      in_limits = asks.in_limits;
    },
    shut,
    ap (λ k. fed k more) goes ∙ behind_more asks.head asks.rest more,
  )
  takes_more (reading skip bytes) more (Fault fault) next (none, has, shut) = rw none
      (omega arith, has_fault_append bytes more limits facts fault has, ap (λ k. fed k more) shut)
  takes_more closed more ask next none = absurd none

  takes_all_more : (old : Kept) (more : List ℕ) (asks : List Ask) (next : Kept) → TakesAll limits facts old asks next
      → TakesAll limits facts (fed old more) asks (fed next more)
  takes_all_more old more [] next is = ap (λ k. fed k more) is
  takes_all_more old more (ask ∷ asks) new (next, first, others) = (
    fed next more,
    takes_more old more ask next first,
    takes_all_more next more asks new others,
  )

  -- asks behind asks
  takes_append : (asks more : List Ask) (old mid new : Kept) → TakesAll limits facts old asks mid
      → TakesAll limits facts mid more new → TakesAll limits facts old (asks ++ more) new
  takes_append [] more old mid new is rest = rw (← is) rest
  takes_append (ask ∷ asks) more old mid new (next, first, others) rest =
      (next, first, takes_append asks more next mid new others rest)

  -- asks of some bytes, and what is asked when more come
  pub takes_resume : (bytes more : List ℕ) (asks others : List Ask) (kept end : Kept)
      → TakesAll limits facts (reading 0 bytes) asks kept → TakesAll limits facts (fed kept more) others end
      → TakesAll limits facts (reading 0 (bytes ++ more)) (asks ++ others) end
  takes_resume bytes more asks others kept end taken rest =
      rw (← fed_all bytes more)
      (takes_append asks others (fed (reading 0 bytes) more) (fed kept more) end
      (takes_all_more (reading 0 bytes) more asks kept taken) rest)

  -- a request that is to be judged is within the limits
  pub judge_in_limits : (old new : Kept) (r : RequestValue) (close : Bool) → Takes limits facts old (Judge r close) new
      → InLimits r limits
  judge_in_limits (reading skip bytes) new r close (none, asks, shut, goes) = asks.in_limits
  judge_in_limits closed new r close none = absurd none

  -- each ask makes what is kept less
  pub takes_falls : (old new : Kept) (ask : Ask) → Takes limits facts old ask new
      → size_of_kept new < size_of_kept old
  takes_falls (reading skip bytes) new (Judge r close) (none, asks, shut, goes) =
      let long : length bytes ≡ length (print_request asks.starts.tree) + length asks.rest =
      ap length asks.starts.reads.1 ∙ length-append (print_request asks.starts.tree) asks.rest in
      rw goes (by_test (closes asks.head) (omega (arith, long, some_head asks.starts.tree)))
    where
      by_test : (test : Bool) → length asks.rest < length bytes
          → size_of_kept (if test then closed else passed (body_of asks.head) asks.rest) < 1 + length bytes
      by_test true less = omega arith
      by_test false less = omega (arith, length-drop (body_of asks.head) asks.rest)
  takes_falls (reading skip bytes) new (Fault fault) (none, has, shut) = rw shut (omega arith)
  takes_falls closed new ask none = absurd none

-- asks that are taken now are those of all the bytes, later ones included
runs_take : (calls : List Call) (old new : FrontValue) → Runs old calls new
    → TakesAll old.limits old.facts (fed old.kept (bytes_fed calls)) (asks_taken calls) new.kept
runs_take [] old new is = ap (λ (v : FrontValue). v.kept) is ∙ sym (fed_none old.kept)
runs_take (feeds bytes ∷ calls) old new (next, step, runs) =
    rw (← fed_twice old.kept bytes (bytes_fed calls)) (rw step at (runs_take calls next new runs))
runs_take (takes (Some ask) ∷ calls) old new (next, step, runs) =
    let limits = ap (λ (v : FrontValue). v.limits) step.1 in
    let facts = ap (λ (v : FrontValue). v.facts) step.1 in (
      fed next.kept (bytes_fed calls),
      takes_more old.limits old.facts old.kept (bytes_fed calls) ask next.kept step.0,
      rw (limits, facts) at (runs_take calls next new runs),
    )
runs_take (takes None ∷ calls) old new (next, step, runs) = rw step.1 at (runs_take calls next new runs)

-- all calls on a new front
pub runs_ask : (limits : LimitsValue) (facts : Facts) (calls : List Call) (front : FrontValue)
    → Runs (new_front limits facts) calls front → (more : List Ask) (end : Kept)
    → TakesAll limits facts front.kept more end → IsAtRest limits facts end
    → Heads limits facts (bytes_fed calls) (asks_taken calls ++ more) (is_closed end)
runs_ask limits facts calls front runs more end left rest = (
  end,
  takes_append limits facts (asks_taken calls) more (reading 0 (bytes_fed calls)) front.kept end
      (rw (← fed_all [] (bytes_fed calls)) (runs_take calls (new_front limits facts) front runs)) left,
  rest,
  refl,
)
