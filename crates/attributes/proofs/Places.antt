-- Places among entries by ascending name: at the end, at an entry, between two.
use Rattle.std.proofs.Common.{◌≡◌, ℕ, ◌<◌, ◌≤◌, T, List, [], ◌∷◌, ◌++◌, Some, None, length, refl, ap, arith, suc, zero, get_or, set}
use Rattle.std.specs.List.{insert}
use Rattle.std.specs.FinMap.{find, is_sorted}
use Rattle.std.specs.FinMap.Entries.{below_all, put}
use Rattle.std.specs.declared.cmp.Ordering.TheVariants.{Equal, Greater}
use Rattle.attributes.specs.Headers.{Entry, name_cmp}
use Rattle.attributes.proofs.TextOrder.{IsBefore, after_from_before, before_trans, before_from_greater, both_first, both_second, less_from_test, tied_name}

-- each name is before this one
abbrev EachBefore : List ℕ → List Entry → Type 0
EachBefore name [] = Unit {0}
EachBefore name (e ∷ es) = IsBefore e.0 name × EachBefore name es

-- a name that all others are before is put at the end, and found nowhere before
put_above : (name v : List ℕ) (es : List Entry) → EachBefore name es
    → (put name_cmp name v es ≡ es ++ (name, v) ∷ []) × (find name_cmp name es ≡ None)
put_above name v [] h = (refl, refl)
put_above name v (e ∷ es) h =
    let later = put_above name v es h.1 in
    rw (after_from_before e.0 name h.0) (ap (λ xs. e ∷ xs) later.0, later.1)

-- the first of ascending names is before the last
before_last : (name : List ℕ) (es : List Entry) (l : Entry)
    → T (below_all name_cmp name (es ++ l ∷ [])) → IsBefore name l.0
before_last name [] l up = less_from_test _ (both_first _ _ up)
before_last name (e ∷ es) l up = before_last name es l (both_second _ _ up)

-- so all are before what comes after the last
each_before : (name : List ℕ) (es : List Entry) (l : Entry) → T (is_sorted name_cmp (es ++ l ∷ []))
    → IsBefore l.0 name → EachBefore name (es ++ l ∷ [])
each_before name [] l up after = (after, tt)
each_before name (e ∷ es) l up after = (
  before_trans e.0 l.0 name (before_last e.0 es l (both_first _ _ up)) after,
  each_before name es l (both_second _ _ up) after,
)

-- a name after the last is put behind it
pub put_behind : (name v : List ℕ) (es : List Entry) (l : Entry)
    → T (is_sorted name_cmp (es ++ l ∷ [])) → IsBefore l.0 name
    → (put name_cmp name v (es ++ l ∷ []) ≡ (es ++ l ∷ []) ++ (name, v) ∷ [])
    × (find name_cmp name (es ++ l ∷ []) ≡ None)
put_behind name v es l up after = put_above name v (es ++ l ∷ []) (each_before name es l up after)

-- the last name is put over its value
pub put_last : (name v w : List ℕ) (es : List Entry) → T (is_sorted name_cmp (es ++ (name, w) ∷ []))
    → (put name_cmp name v (es ++ (name, w) ∷ []) ≡ es ++ (name, v) ∷ [])
    × (find name_cmp name (es ++ (name, w) ∷ []) ≡ Some w)
put_last name v w [] up = rw (tied_name name) (refl, refl)
put_last name v w (e ∷ es) up =
    let later = put_last name v w es (both_second _ _ up) in
    let first : IsBefore e.0 name = before_last e.0 es (name, w) (both_first _ _ up) in
    rw (after_from_before e.0 name first) (ap (λ xs. e ∷ xs) later.0, later.1)

-- the first of ascending names is before each other
pub above_first : (name : List ℕ) (es : List Entry) (i : ℕ) (d : Entry)
    → T (below_all name_cmp name es) → i < length es → IsBefore name (get_or es i d).0
above_first name [] i d up below = absurd (omega arith)
above_first name (e ∷ es) zero d up below = less_from_test _ (both_first _ _ up)
above_first name (e ∷ es) (suc i) d up below =
    above_first name es i d (both_second _ _ up) (omega arith)

-- between the names before and the names behind it, a name is inserted
pub put_between : (name v : List ℕ) (es : List Entry) (i : ℕ) → i ≤ length es
    → ((k : ℕ) (d : Entry) → k < i → IsBefore (get_or es k d).0 name)
    → ((k : ℕ) (d : Entry) → i ≤ k → k < length es → name_cmp (get_or es k d).0 name ≡ Greater)
    → (put name_cmp name v es ≡ insert es i (name, v)) × (find name_cmp name es ≡ None)
put_between name v [] zero fits low high = (refl, refl)
put_between name v [] (suc i) fits low high = absurd (omega arith)
put_between name v (e ∷ es) zero fits low high =
    let first : IsBefore name e.0 =
    before_from_greater e.0 name (high 0 e (omega arith) (omega arith)) in
    let later = put_between name v es zero (omega arith) (λ k d below. absurd (omega arith))
    (λ k d above below. high (suc k) d (omega arith) (omega arith)) in
    rw first (refl, later.1)
put_between name v (e ∷ es) (suc i) fits low high =
    let later = put_between name v es i (omega arith)
    (λ k d below. low (suc k) d (omega arith))
    (λ k d above below. high (suc k) d (omega arith) (omega arith)) in
    rw (after_from_before e.0 name (low 0 e (omega arith))) (ap (λ xs. e ∷ xs) later.0, later.1)

-- at its own entry a name is put over the value
pub put_at : (name v : List ℕ) (es : List Entry) (i : ℕ) (d : Entry)
    → T (is_sorted name_cmp es) → i < length es → (get_or es i d).0 ≡ name
    → (put name_cmp name v es ≡ set es i (name, v))
    × (find name_cmp name es ≡ Some (get_or es i d).1)
put_at name v [] i d up below same = absurd (omega arith)
put_at name v (e ∷ es) zero d up below same =
    let tied : name_cmp name e.0 ≡ Equal = rw same (tied_name name) in
    rw tied (ap (λ n. (n, v) ∷ es) same, refl)
put_at name v (e ∷ es) (suc i) d up below same =
    let behind : i < length es = omega arith in
    let later = put_at name v es i d (both_second _ _ up) behind same in
    let first : IsBefore e.0 name =
    rw same at (above_first e.0 es i d (both_first _ _ up) behind) in
    rw (after_from_before e.0 name first) (ap (λ xs. e ∷ xs) later.0, later.1)
