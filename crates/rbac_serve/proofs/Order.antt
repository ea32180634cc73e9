-- What was sent, and after it what waits, is what was put out.
use Rattle.std.proofs.Common.{◌≡◌, ℕ, zero, suc, ◌<◌, ◌==◌, Bool, true, false, true≢false, List, [], ◌∷◌, ◌++◌, length, set, refl, sym, ap, ◌∙◌, arith, append_assoc, if◌then◌else◌, length-set}
use Rattle.std.proofs.lemmas.Bool.{eqb-true, eq-eqb}
use Rattle.ads.specs.Config.{ConfigValue}
use Rattle.proxy_core.specs.Events.{EventValue, ads_up, ads_bytes, ads_lost, http_open, http_bytes, http_closed, OutputValue}
use Rattle.proxy_core.specs.Step.{answered, no_memory}
use Rattle.rbac_serve.specs.Tables.{WorkerValue, new_worker, nothing_waits, waiting_at}
use Rattle.rbac_serve.specs.Turns.{Turn, called, answer_sent, request_sent, TurnDoes, TurnsDo, Works, after_all, answered_then, sent_then, requested_then, requests_sent_then}

-- ---- places of a list

pub put_same : (xs : List (List ℕ)) (k : ℕ) (x : List ℕ) → k < length xs → waiting_at k (set xs k x) ≡ x
put_same [] k x in' = absurd (omega arith)
put_same (y ∷ xs) zero x in' = refl
put_same (y ∷ xs) (suc k) x in' = put_same xs k x (omega arith)

put_apart : (xs : List (List ℕ)) (j k : ℕ) (x : List ℕ) → (k ≡ j → ⊥) → waiting_at k (set xs j x) ≡ waiting_at k xs
put_apart [] j k x other = refl
put_apart (y ∷ xs) zero zero x other = absurd (other refl)
put_apart (y ∷ xs) zero (suc k) x other = refl
put_apart (y ∷ xs) (suc j) zero x other = refl
put_apart (y ∷ xs) (suc j) (suc k) x other = put_apart xs j k x (λ same. other (ap (λ (n : ℕ). suc n) same))

pub put_other : (xs : List (List ℕ)) (j k : ℕ) (x : List ℕ) → (k == j) ≡ false → waiting_at k (set xs j x) ≡ waiting_at k xs
put_other xs j k x other = put_apart xs j k x (λ same. true≢false (sym (eq-eqb k j same) ∙ other))

-- ---- one connection

-- the connection in place `k` opens or closes, or another does
emptied : (b : Bool) (k j : ℕ) (xs : List (List ℕ)) (a s : List ℕ) → (k == j) ≡ b → k < length xs
    → a ≡ s ++ waiting_at k xs
    → (if b then [] else a) ≡ (if b then [] else s) ++ waiting_at k (set xs j [])
emptied true k j xs a s is in' so_far =
    sym (ap (λ (n : ℕ). waiting_at k (set xs n [])) (sym (eqb-true k j is)) ∙ put_same xs k [] in')
emptied false k j xs a s is in' so_far = so_far ∙ ap (λ (w : List ℕ). s ++ w) (sym (put_other xs j k [] is))

-- the connection in place `k` is answered, or another is
put_out : (b : Bool) (k j : ℕ) (xs : List (List ℕ)) (http a s : List ℕ) → (k == j) ≡ b → k < length xs
    → a ≡ s ++ waiting_at k xs
    → (if b then a ++ http else a) ≡ s ++ waiting_at k (set xs j (waiting_at j xs ++ http))
put_out true k j xs http a s is in' so_far =
    ap (λ (l : List ℕ). l ++ http) so_far ∙ append_assoc s (waiting_at k xs) http
    ∙ ap (λ (w : List ℕ). s ++ w) (sym (ap (λ (n : ℕ). waiting_at k (set xs n (waiting_at n xs ++ http)))
    (sym (eqb-true k j is)) ∙ put_same xs k (waiting_at k xs ++ http) in'))
put_out false k j xs http a s is in' so_far =
    so_far ∙ ap (λ (w : List ℕ). s ++ w) (sym (put_other xs j k (waiting_at j xs ++ http) is))

-- bytes are sent on the connection in place `k`, or on another
taken : (b : Bool) (k j : ℕ) (xs : List (List ℕ)) (bytes left a s : List ℕ) → (k == j) ≡ b → k < length xs
    → waiting_at j xs ≡ bytes ++ left → a ≡ s ++ waiting_at k xs
    → a ≡ (if b then s ++ bytes else s) ++ waiting_at k (set xs j left)
taken true k j xs bytes left a s is in' parts so_far =
    so_far ∙ ap (λ (w : List ℕ). s ++ w) (ap (λ (n : ℕ). waiting_at n xs) (eqb-true k j is) ∙ parts)
    ∙ sym (append_assoc s bytes left)
    ∙ ap (λ (w : List ℕ). (s ++ bytes) ++ w) (sym (ap (λ (n : ℕ). waiting_at k (set xs n left))
    (sym (eqb-true k j is)) ∙ put_same xs k left in'))
taken false k j xs bytes left a s is in' parts so_far =
    so_far ∙ ap (λ (w : List ℕ). s ++ w) (sym (put_other xs j k left is))

module _ (k : ℕ) (a s : List ℕ) where
  event_order : (event : EventValue) (out : OutputValue) (old new : WorkerValue) → k < length old.answers
      → a ≡ s ++ waiting_at k old.answers → Works old event out new
      → answered_then k a (called (answered event out))
      ≡ sent_then k s (called (answered event out)) ++ waiting_at k new.answers
  event_order (http_open j facts) out old new in' so_far works =
      emptied (k == j) k j old.answers a s refl in' so_far
      ∙ ap (λ (xs : List (List ℕ)). (if k == j then [] else s) ++ waiting_at k xs) (sym works.answers)
  event_order (http_closed j) out old new in' so_far works =
      emptied (k == j) k j old.answers a s refl in' so_far
      ∙ ap (λ (xs : List (List ℕ)). (if k == j then [] else s) ++ waiting_at k xs) (sym works.answers)
  event_order (http_bytes j bytes) out old new in' so_far works =
      put_out (k == j) k j old.answers out.http a s refl in' so_far
      ∙ ap (λ (xs : List (List ℕ)). s ++ waiting_at k xs) (sym works.answers)
  event_order ads_up out old new in' so_far works =
      so_far ∙ ap (λ (xs : List (List ℕ)). s ++ waiting_at k xs) (sym works.answers)
  event_order (ads_bytes bytes) out old new in' so_far works =
      so_far ∙ ap (λ (xs : List (List ℕ)). s ++ waiting_at k xs) (sym works.answers)
  event_order ads_lost out old new in' so_far works =
      so_far ∙ ap (λ (xs : List (List ℕ)). s ++ waiting_at k xs) (sym works.answers)

  turn_order : (turn : Turn) (old new : WorkerValue) → k < length old.answers → a ≡ s ++ waiting_at k old.answers
      → TurnDoes old turn new → answered_then k a turn ≡ sent_then k s turn ++ waiting_at k new.answers
  turn_order (called (answered event out)) old new in' so_far works = event_order event out old new in' so_far works
  turn_order (called (no_memory event)) old new in' so_far same =
      so_far ∙ ap (λ (w : WorkerValue). s ++ waiting_at k w.answers) (sym same)
  turn_order (answer_sent j bytes) old new in' so_far (left, parts, made) =
      taken (k == j) k j old.answers bytes left a s refl in' parts so_far
      ∙ ap (λ (w : WorkerValue). (if k == j then s ++ bytes else s) ++ waiting_at k w.answers) (sym made)
  turn_order (request_sent bytes) old new in' so_far (left, parts, made) =
      so_far ∙ ap (λ (w : WorkerValue). s ++ waiting_at k w.answers) (sym made)

-- ---- the number of places

event_length : (event : EventValue) (out : OutputValue) (old new : WorkerValue) → Works old event out new
    → length new.answers ≡ length old.answers
event_length (http_open j facts) out old new works =
    ap (λ (xs : List (List ℕ)). length xs) works.answers ∙ length-set old.answers j []
event_length (http_closed j) out old new works =
    ap (λ (xs : List (List ℕ)). length xs) works.answers ∙ length-set old.answers j []
event_length (http_bytes j bytes) out old new works =
    ap (λ (xs : List (List ℕ)). length xs) works.answers
    ∙ length-set old.answers j (waiting_at j old.answers ++ out.http)
event_length ads_up out old new works = ap (λ (xs : List (List ℕ)). length xs) works.answers
event_length (ads_bytes bytes) out old new works = ap (λ (xs : List (List ℕ)). length xs) works.answers
event_length ads_lost out old new works = ap (λ (xs : List (List ℕ)). length xs) works.answers

turn_length : (turn : Turn) (old new : WorkerValue) → TurnDoes old turn new → length new.answers ≡ length old.answers
turn_length (called (answered event out)) old new works = event_length event out old new works
turn_length (called (no_memory event)) old new same = ap (λ (w : WorkerValue). length w.answers) same
turn_length (answer_sent j bytes) old new (left, parts, made) =
    ap (λ (w : WorkerValue). length w.answers) made ∙ length-set old.answers j left
turn_length (request_sent bytes) old new (left, parts, made) = ap (λ (w : WorkerValue). length w.answers) made

-- ---- all turns

all_order : (k : ℕ) (turns : List Turn) (old new : WorkerValue) (a s : List ℕ) → k < length old.answers
    → a ≡ s ++ waiting_at k old.answers → TurnsDo old turns new
    → after_all (answered_then k) a turns ≡ after_all (sent_then k) s turns ++ waiting_at k new.answers
all_order k [] old new a s in' so_far same =
    so_far ∙ ap (λ (w : WorkerValue). s ++ waiting_at k w.answers) (sym same)
all_order k (turn ∷ turns) old new a s in' so_far (next, does, others) =
    all_order k turns next new (answered_then k a turn) (sent_then k s turn) (rw (turn_length turn old next does) in')
    (turn_order k a s turn old next in' so_far does) others

pub none_waits : (n k : ℕ) → waiting_at k (nothing_waits n) ≡ []
none_waits zero k = refl
none_waits (suc n) zero = refl
none_waits (suc n) (suc k) = none_waits n k

waits_length : (n : ℕ) → length (nothing_waits n) ≡ n
waits_length zero = refl
waits_length (suc n) = ap (λ (m : ℕ). suc m) (waits_length n)

pub answers_in_order : (c : ConfigValue) (n k : ℕ) (turns : List Turn) (end : WorkerValue) → k < n
    → TurnsDo (new_worker n c) turns end
    → after_all (answered_then k) [] turns ≡ after_all (sent_then k) [] turns ++ waiting_at k end.answers
answers_in_order c n k turns end in' all =
    all_order k turns (new_worker n c) end [] [] (rw (waits_length n) in') (sym (none_waits n k)) all

-- ---- the update stream

request_order : (turn : Turn) (old new : WorkerValue) (a s : List ℕ) → a ≡ s ++ old.requests → TurnDoes old turn new
    → requested_then a turn ≡ requests_sent_then s turn ++ new.requests
request_order (called (answered ads_up out)) old new a s so_far works = sym works.requests
request_order (called (answered ads_lost out)) old new a s so_far works = sym works.requests
request_order (called (answered (ads_bytes bytes) out)) old new a s so_far works =
    ap (λ (l : List ℕ). l ++ out.ads) so_far ∙ append_assoc s old.requests out.ads
    ∙ ap (λ (w : List ℕ). s ++ w) (sym works.requests)
request_order (called (answered (http_open j facts) out)) old new a s so_far works =
    so_far ∙ ap (λ (w : List ℕ). s ++ w) (sym works.requests)
request_order (called (answered (http_bytes j bytes) out)) old new a s so_far works =
    so_far ∙ ap (λ (w : List ℕ). s ++ w) (sym works.requests)
request_order (called (answered (http_closed j) out)) old new a s so_far works =
    so_far ∙ ap (λ (w : List ℕ). s ++ w) (sym works.requests)
request_order (called (no_memory event)) old new a s so_far same =
    so_far ∙ ap (λ (w : WorkerValue). s ++ w.requests) (sym same)
request_order (answer_sent j bytes) old new a s so_far (left, parts, made) =
    so_far ∙ ap (λ (w : WorkerValue). s ++ w.requests) (sym made)
request_order (request_sent bytes) old new a s so_far (left, parts, made) =
    so_far ∙ ap (λ (w : List ℕ). s ++ w) parts ∙ sym (append_assoc s bytes left)
    ∙ ap (λ (w : WorkerValue). (s ++ bytes) ++ w.requests) (sym made)

all_requests : (turns : List Turn) (old new : WorkerValue) (a s : List ℕ) → a ≡ s ++ old.requests
    → TurnsDo old turns new
    → after_all requested_then a turns ≡ after_all requests_sent_then s turns ++ new.requests
all_requests [] old new a s so_far same = so_far ∙ ap (λ (w : WorkerValue). s ++ w.requests) (sym same)
all_requests (turn ∷ turns) old new a s so_far (next, does, others) =
    all_requests turns next new (requested_then a turn) (requests_sent_then s turn)
    (request_order turn old next a s so_far does) others

pub requests_in_order : (c : ConfigValue) (n : ℕ) (turns : List Turn) (end : WorkerValue)
    → TurnsDo (new_worker n c) turns end
    → after_all requested_then [] turns ≡ after_all requests_sent_then [] turns ++ end.requests
requests_in_order c n turns end all = all_requests turns (new_worker n c) end [] [] refl all
