-- Fronts are taken out of their places, and put into them.
use Rattle.std.proofs.Common.{◌≡◌, ℕ, zero, suc, ◌<◌, ◌≤◌, Bool, true, false, Option, Some, None, List, [], ◌∷◌, length, get_or, set, refl, sym, ap, ◌∙◌, arith, if◌then◌else◌}
use Rattle.proxy_core.specs.declared.answered_ask.AnsweredAsk.{AnsweredAsk}
use Rattle.std.specs.Prelude.{is_none, slice_get, Result, Ok, Err, OnErr, IfOk, MatchBool}
use Rattle.std.specs.declared.alloc.AllocError.{AllocError}
use Rattle.std.specs.List.{AllByRecursion}
use Rattle.std.proofs.Math.Logic.{∥∥₁_elim, ∥∥₁_prop}
use Rattle.std.proofs.Props.{props}
use Rattle.std.proofs.lemmas.Grind.{merely}
use Rattle.std.proofs.lemmas.List.{set-set}
use Rattle.attributes.specs.Limits.{LimitsValue}
use Rattle.ads.specs.Answer.{Accepted}
use Rattle.http_front.specs.Front.{FrontValue, HasNoAsk, fed_front}
use Rattle.http_front.specs.Heads.{Kept, reading, closed, fed, is_closed}
use Rattle.proxy_core.specs.Events.{OutputValue, http_output, no_output}
use Rattle.proxy_core.specs.Step.{ProxyValue, AnswersBytes, TakesHttp, front_at, front_in, with_conn}
use Rattle.proxy_core.proofs.AnsweredAsks.{answers_takes}
use Rattle.proxy_core.specs.private.Fronts.{IsOpenFor, KeepsAt}

-- ---- places

all_set : {A : Type 0} (P : A → Type 0) (xs : List A) (k : ℕ) (x : A) → P x → AllByRecursion P xs
    → AllByRecursion P (set xs k x)
all_set P [] k x this all = tt
all_set P (y ∷ xs) zero x this (one, all) = (this, all)
all_set P (y ∷ xs) (suc k) x this (one, all) = (one, all_set P xs k x this all)

pub open_set : (limits : LimitsValue) (xs : List (Option FrontValue)) (k : ℕ) (x : Option FrontValue) → IsOpenFor limits x
    → ∥ AllByRecursion (IsOpenFor limits) xs ∥₁ → ∥ AllByRecursion (IsOpenFor limits) (set xs k x) ∥₁
open_set limits xs k x this all =
    ∥∥₁_elim all ∥∥₁_prop (λ each. merely (all_set (IsOpenFor limits) xs k x this each))

-- the front in a place
pub taken_within : (xs : List (Option FrontValue)) (k : ℕ) (d : Option FrontValue) → k < length xs
    → get_or xs k d ≡ front_in (slice_get xs k)
taken_within [] k d within = absurd (omega arith)
taken_within (x ∷ xs) zero d within = by x
  where
    by : (o : Option FrontValue) → o ≡ front_in (Some o)
    by None = refl
    by (Some f) = refl
taken_within (x ∷ xs) (suc k) d within = taken_within xs k d (omega arith)

pub taken_past : (xs : List (Option FrontValue)) (k : ℕ) → length xs ≤ k → None ≡ front_in (slice_get xs k)
taken_past [] k past = refl
taken_past (x ∷ xs) zero past = absurd (omega arith)
taken_past (x ∷ xs) (suc k) past = taken_past xs k (omega arith)

open_at : (limits : LimitsValue) (xs : List (Option FrontValue)) (k : ℕ) (d : Option FrontValue) → k < length xs
    → AllByRecursion (IsOpenFor limits) xs → IsOpenFor limits (get_or xs k d)
open_at limits [] k d within all = absurd (omega arith)
open_at limits (x ∷ xs) zero d within (one, all) = one
open_at limits (x ∷ xs) (suc k) d within (one, all) = open_at limits xs k d (omega arith) all

pub open_taken : (limits : LimitsValue) (xs : List (Option FrontValue)) (k : ℕ) (d o : Option FrontValue) → k < length xs
    → o ≡ get_or xs k d → ∥ AllByRecursion (IsOpenFor limits) xs ∥₁ → IsOpenFor limits o
open_taken limits xs k d None within is all = tt
open_taken limits xs k d (Some f) within is all = (
  ∥∥₁_elim all (Prim.hlevel props) (λ each. (rw (sym is) at (open_at limits xs k d within each)).0),
  ∥∥₁_elim all (Prim.hlevel props) (λ each. (rw (sym is) at (open_at limits xs k d within each)).1),
)

-- put back as it was
put_back : (xs : List (Option FrontValue)) (k : ℕ) (f : FrontValue) → front_in (slice_get xs k) ≡ Some f
    → set (set xs k None) k (Some f) ≡ xs
put_back [] k f is = refl
put_back (x ∷ xs) zero f is = ap (λ (y : Option FrontValue). y ∷ xs) (sym is)
put_back (x ∷ xs) (suc k) f is = ap (λ (ys : List (Option FrontValue)). x ∷ ys) (put_back xs k f is)

none_back : (xs : List (Option FrontValue)) (k : ℕ) → front_in (slice_get xs k) ≡ None → set xs k None ≡ xs
none_back [] k is = refl
none_back (x ∷ xs) zero is = ap (λ (y : Option FrontValue). y ∷ xs) (sym is)
none_back (x ∷ xs) (suc k) is = ap (λ (ys : List (Option FrontValue)). x ∷ ys) (none_back xs k is)

-- ---- bytes that complete no ask

open_fed : (kept : Kept) (bytes : List ℕ) → is_closed kept ≡ false → is_closed (fed kept bytes) ≡ false
open_fed (reading skip rest) bytes is = refl
open_fed closed bytes is = is

-- what a call that may keep the bytes does to a front
abbrev pub Keeping : Result Bool AllocError → FrontValue → List ℕ → FrontValue → Type 0
Keeping result f bytes next = IfOk result (λ kept. MatchBool kept
    (HasNoAsk (fed_front f bytes) × (next ≡ fed_front f bytes)) (next ≡ f))

-- it leaves a connection open
pub stays_open : (limits : LimitsValue) (result : Result Bool AllocError) (f next : FrontValue) (bytes : List ℕ)
    → IsOpenFor limits (Some f) → Keeping result f bytes next → OnErr result (next ≡ f) → IsOpenFor limits (Some next)
stays_open limits (Ok true) f next bytes (same, is) (none, made) fault = rw made (same, open_fed f.kept bytes is)
stays_open limits (Ok false) f next bytes (same, is) left fault = rw left (same, is)
stays_open limits (Err e) f next bytes (same, is) keeps fault = rw fault (same, is)

module _ (old mid new : ProxyValue) (k : ℕ) (left : mid ≡ with_conn old k None) where
  abbrev with_conns : List (Option FrontValue) → ProxyValue
  with_conns cs = record { client = old.client; conns = cs }

  kept_back : (f : FrontValue) → front_at old k ≡ Some f → new ≡ with_conn mid k (Some f) → new ≡ old
  kept_back f is made = made ∙ ap (λ (p : ProxyValue). with_conn p k (Some f)) left ∙ ap with_conns (put_back old.conns k f is)

  kept_new : (f : FrontValue) (bytes : List ℕ) → front_at old k ≡ Some f → is_closed f.kept ≡ false
      → HasNoAsk (fed_front f bytes) → new ≡ with_conn mid k (Some (fed_front f bytes)) → KeepsAt old k bytes new
  kept_new f bytes is open' none made = (
    f,
    is,
    open',
    none,
    made ∙ ap (λ (p : ProxyValue). with_conn p k (Some (fed_front f bytes))) left
        ∙ ap with_conns (set-set old.conns k None (Some (fed_front f bytes))),
  )

  pub kept_none : front_at old k ≡ None → mid ≡ old
  kept_none is = left ∙ ap with_conns (none_back old.conns k is)

  module _ (f next : FrontValue) (is : front_at old k ≡ Some f) (open' : is_closed f.kept ≡ false)
      (made : new ≡ with_conn mid k (Some next)) where
    pub kept : (result : Result Bool AllocError) (bytes : List ℕ) → Keeping result f bytes next
        → IfOk result (λ kept. MatchBool kept (KeepsAt old k bytes new) (new ≡ old))
    kept (Ok true) bytes (none, same) = kept_new f bytes is open' none (rw same at made)
    kept (Ok false) bytes same = kept_back f is (made ∙ ap (λ (x : FrontValue). with_conn mid k (Some x)) same)
    kept (Err e) bytes keeps = tt

    pub kept_not : (result : Result Bool AllocError) → OnErr result (next ≡ f) → OnErr result (new ≡ old)
    kept_not (Ok b) answered_asks = tt
    kept_not (Err e) same = kept_back f is (made ∙ ap (λ (x : FrontValue). with_conn mid k (Some x)) same)

-- bytes that complete no ask are read
pub kept_reported : (a : Accepted) (front : FrontValue) (bytes : List ℕ) → is_closed front.kept ≡ false
    → HasNoAsk (fed_front front bytes) → AnswersBytes a front bytes [] [] (Some (fed_front front bytes))
kept_reported a front bytes open' none = (
  fed_front front bytes,
  (refl, none, refl),
  refl,
  ap (λ (b : Bool). if b then None else Some (fed_front front bytes)) (sym (open_fed front.kept bytes open')),
)

pub keeps_answered : (old new : ProxyValue) (k : ℕ) (bytes : List ℕ) (out : OutputValue) → KeepsAt old k bytes new
    → out ≡ no_output → TakesHttp (front_at old k) old k bytes out new
keeps_answered old new k bytes out (front, is, open', none, made) answered_asks =
    rw is (
      [],
      Some (fed_front front bytes),
      answers_takes old.client.accepted front bytes [] [] (Some (fed_front front bytes))
          (kept_reported old.client.accepted front bytes open' none),
      answered_asks,
      made,
    )

-- where a connection is open
pub not_none : (old mid : ProxyValue) (k : ℕ) (f : FrontValue) → mid ≡ old → front_at mid k ≡ Some f
    → front_at old k ≡ None → ⊥
not_none old mid k f same is none =
    let both : Some f ≡ None = sym is ∙ ap (λ (p : ProxyValue). front_at p k) same ∙ none in absurd cc

-- bytes that were read from a copy
pub answered_http : (old mid new : ProxyValue) (k : ℕ) (bytes http : List ℕ) (front : FrontValue)
    (after : Option FrontValue) (answered_asks : List AnsweredAsk) (out : OutputValue) → mid ≡ old → front_at mid k ≡ Some front
    → AnswersBytes mid.client.accepted front bytes answered_asks http after → out ≡ http_output http (is_none after)
    → new ≡ with_conn mid k after → TakesHttp (front_at old k) old k bytes out new
answered_http old mid new k bytes http front after answered_asks out same is reports put made =
    rw (sym same) (rw is (http, after, answers_takes mid.client.accepted front bytes answered_asks http after reports, put, made))
