-- Lists of entries in ascending order of keys.
use Rattle.std.proofs.Common.{◌≡◌, ℕ, zero, suc, ◌+◌, ◌-◌, ◌<◌, ◌≤◌, Bool, true, false, cond, T, IsTrue, ◌&&◌, List, [], ◌∷◌, ◌++◌, take, get_or, length, Some, None, map, count_by, arith, refl, sym, ap, subst, ◌∙◌}
use Rattle.std.proofs.lemmas.List.{nil_from_length, take_more, map-append}
use Rattle.std.proofs.lemmas.List.Sums.{sum_by-cons}
use Rattle.std.specs.Ordering.{eq_by_cmp, is_eq, is_lt, ordering_reverse}
use Rattle.std.specs.declared.cmp.Ordering.{Ordering}
use Rattle.std.specs.declared.cmp.Ordering.TheVariants.{Less, Equal, Greater}
use Rattle.std.specs.Cmp.{IsTotalOrder, tied_itself}
use Rattle.std.specs.FinMap.{IsAntisymmetric, entries, find, is_sorted, from_entries, entries-insert, empty, len-empty, len-entries}
use Rattle.std.specs.FinMap.Entries.{below_all, put, by_order}

pub both_first : (a b : Bool) → T (a && b) → T a
both_first true b h = tt
both_first false b h = h

pub both_second : (a b : Bool) → T (a && b) → T b
both_second true b h = h
both_second false b h = absurd h

pub both_hold : (a b : Bool) → T a → T b → T (a && b)
both_hold true b p q = q
both_hold false b p q = p

-- what holds is true
pub true_of : (b : Bool) → T b → IsTrue b
true_of true h = refl
true_of false h = absurd h

-- an order that is less is the one
pub lt_is_less : (o : Ordering) → T (is_lt o) → o ≡ Less
lt_is_less Less h = refl
lt_is_less Equal h = absurd h
lt_is_less Greater h = absurd h

module _ {K : Type 0} (R : K → K → Ordering) (total : IsTotalOrder R) where
  -- an entry below all others goes to the front
  put_front : {X : Type 0} (e : K × X) (es : List (K × X)) → T (below_all R e.0 es)
      → put R e.0 e.1 es ≡ e ∷ es
  put_front e [] below = refl
  put_front e (x ∷ es) below =
      ap (λ o. by_order o (e ∷ x ∷ es) ((x.0, e.1) ∷ es) (x ∷ put R e.0 e.1 es))
      (lt_is_less _ (both_first _ _ below))

  -- the map of a list in order has the list's entries
  pub entries_from_entries : {X : Type 0} (es : List (K × X)) → T (is_sorted R es)
      → entries (from_entries {R = R} es) ≡ es
  entries_from_entries {X} [] sorted =
      nil_from_length _ (sym (len-entries (empty {X = X} {R = R})) ∙ len-empty R X)
  entries_from_entries (e ∷ es) sorted =
      entries-insert total (from_entries es) e.0 e.1
      ∙ ap (put R e.0 e.1) (entries_from_entries es (both_second _ _ sorted))
      ∙ put_front e es (both_first _ _ sorted)

  -- ---- lists that grow at their end

  -- a key of a list is below the one that stands behind
  below_one : {X : Type 0} (k : K) (es : List (K × X)) (e : K × X) (fs : List (K × X))
      → T (below_all R k (es ++ e ∷ fs)) → R k e.0 ≡ Less
  below_one k [] e fs below = lt_is_less _ (both_first _ _ below)
  below_one k (x ∷ es) e fs below = below_one k es e fs (both_second _ _ below)

  -- an entry above all others goes to the end
  pub put_last : {X : Type 0} (es : List (K × X)) (e : K × X) (fs : List (K × X))
      → T (is_sorted R (es ++ e ∷ fs)) → put R e.0 e.1 es ≡ es ++ e ∷ []
  put_last [] e fs sorted = refl
  put_last (x ∷ es) e fs sorted =
      let less : R x.0 e.0 ≡ Less = below_one x.0 es e fs (both_first _ _ sorted) in
      let above : R e.0 x.0 ≡ Greater = total.antisymm e.0 x.0 ∙ ap ordering_reverse less in
      ap (λ o. by_order o (e ∷ x ∷ es) ((x.0, e.1) ∷ es) (x ∷ put R e.0 e.1 es)) above
      ∙ ap (λ xs. x ∷ xs) (put_last es e fs (both_second _ _ sorted))

  -- the last key, if there is one, is below this one
  abbrev pub LastBelow : {X : Type 0} → K → List (K × X) → Type 0
  LastBelow q [] = Unit {0}
  LastBelow q (x ∷ []) = R x.0 q ≡ Less
  LastBelow q (x ∷ y ∷ es) = LastBelow q (y ∷ es)

  last_later : {X : Type 0} (q : K) (x : K × X) (es : List (K × X)) → LastBelow q (x ∷ es)
      → LastBelow q es
  last_later q x [] last = tt
  last_later q x (y ∷ es) last = last

  first_below : {X : Type 0} (q : K) (x : K × X) (es : List (K × X)) → T (is_sorted R (x ∷ es))
      → LastBelow q (x ∷ es) → R x.0 q ≡ Less
  first_below q x [] sorted last = last
  first_below q x (y ∷ es) sorted last =
      let next : R x.0 y.0 ≡ Less = lt_is_less _ (both_first _ _ (both_first _ _ sorted)) in
      total.trans x.0 y.0 q next (first_below q y es (both_second _ _ sorted) last)

  below_push : {X : Type 0} (k : K) (es : List (K × X)) (e : K × X) → T (below_all R k es)
      → R k e.0 ≡ Less → T (below_all R k (es ++ e ∷ []))
  below_push k [] e below less =
      let P : Ordering → Type 0 = λ o. T (is_lt o && true) in subst P (sym less) tt
  below_push k (x ∷ es) e below less =
      both_hold _ _ (both_first _ _ below) (below_push k es e (both_second _ _ below) less)

  push_sorted : {X : Type 0} (es : List (K × X)) (e : K × X) → T (is_sorted R es)
      → LastBelow e.0 es → T (is_sorted R (es ++ e ∷ []))
  push_sorted [] e sorted last = tt
  push_sorted (x ∷ es) e sorted last =
      both_hold _ _
      (below_push x.0 es e (both_first _ _ sorted) (first_below e.0 x es sorted last))
      (push_sorted es e (both_second _ _ sorted) (last_later e.0 x es last))

  module _ {A X : Type 0} (f : A → K × X) where
    last_taken : (xs : List A) (i : ℕ) (a : A) (q : K) → i < length xs
        → R (f (get_or xs i a)).0 q ≡ Less → LastBelow q (map f (take (suc i) xs))
    last_taken [] i a q within less = absurd (omega (arith, within))
    last_taken (x ∷ xs) zero a q within less = less
    last_taken (x ∷ []) (suc i) a q within less = absurd (omega (arith, within))
    last_taken (x ∷ y ∷ xs) (suc i) a q within less =
        let later : i < length (y ∷ xs) = omega (arith, within) in
        last_taken (y ∷ xs) i a q later less

    -- one entry alone is in order
    pub sorted_first : (xs : List A) → T (is_sorted R (map f (take 1 xs)))
    sorted_first [] = tt
    sorted_first (x ∷ xs) = tt

    -- an entry whose key is above the one before keeps the order
    pub sorted_more : (xs : List A) (i : ℕ) (a b : A) → 1 ≤ i → i < length xs
        → T (is_sorted R (map f (take i xs)))
        → R (f (get_or xs (i - 1) a)).0 (f (get_or xs i b)).0 ≡ Less
        → T (is_sorted R (map f (take (i + 1) xs)))
    sorted_more xs zero a b some within sorted less = absurd (omega (arith, some))
    sorted_more xs (suc i) a b some within sorted less =
        let before : i < length xs = omega (arith, within) in
        let one : suc i - 1 ≡ i = omega arith in
        rw (take_more xs (suc i) b within, map-append f (take (suc i) xs) (get_or xs (suc i) b ∷ []))
        (push_sorted (map f (take (suc i) xs)) (f (get_or xs (suc i) b)) sorted
        (last_taken xs i a (f (get_or xs (suc i) b)).0 before (rw one at less)))

  -- what is above is not below
  pub not_below : (q key : K) → R q key ≡ Less → is_lt (R key q) ≡ false
  not_below q key less = ap is_lt (total.antisymm key q ∙ ap ordering_reverse less)

  -- none of the keys is below one that is below them all
  pub none_below : {X : Type 0} (q : K) (es : List (K × X)) → T (below_all R q es)
      → count_by (λ n. is_lt (R n q)) (map (λ e. e.0) es) ≡ 0
  none_below q [] below = refl
  none_below q (e ∷ es) below =
      let p : K → Bool = λ n. is_lt (R n q) in
      let rest : count_by p (map (λ x. x.0) es) ≡ 0 = none_below q es (both_second _ _ below) in
      let counted : count_by p (map (λ x. x.0) (e ∷ es)) ≡ 0 + count_by p (map (λ x. x.0) es) =
      sum_by-cons (λ n. cond (p n) 1 0) e.0 (map (λ x. x.0) es)
      ∙ ap (λ b. cond b 1 0 + count_by p (map (λ x. x.0) es))
      (not_below q e.0 (lt_is_less _ (both_first _ _ below))) in
      omega (arith, counted, rest)

  module _ (same : IsAntisymmetric R) where
    -- keys that tie are equal
    pub tie : (q x : K) → eq_by_cmp R q x ≡ true → q ≡ x
    tie q x = elim (R q x) as (λ o. R q x ≡ o → is_eq o ≡ true → q ≡ x) [
      | Less ↦ λ at e. let clash : false ≡ true = e in cc
      | Equal ↦ λ at e. same q x at
      | Greater ↦ λ at e. let clash : false ≡ true = e in cc
    ] refl

    -- a key that is below all keys of a list is none of them
    pub not_below_itself : {X : Type 0} (q : K) (es : List (K × X)) (v : X)
        → T (below_all R q es) → find R q es ≡ Some v → ⊥
    not_below_itself q [] v below = λ found. let clash : None ≡ Some v = found in cc
    not_below_itself {X} q (x ∷ es) v below = elim (eq_by_cmp R q x.0) as
        (λ b. eq_by_cmp R q x.0 ≡ b → cond b (Some x.1) (find R q es) ≡ Some v → ⊥) [
          | true ↦ λ tied found.
              let P : K → Type 0 = λ n. T (is_lt (R q n)) in
              let self : T (is_lt (R q q)) = subst P (sym (tie q x.0 tied)) (both_first _ _ below) in
              subst (λ o. T (is_lt o)) (tied_itself total q) self
          | false ↦ λ apart found. not_below_itself q es v (both_second _ _ below) found
        ] refl

    -- what stands at a key in the rest of a map stands at it in the map
    pub found_later : {X : Type 0} (n : K × X) (ns : List (K × X)) (key : K) (x : X)
        → T (is_sorted R (n ∷ ns)) → find R key ns ≡ Some x
        → find R key (n ∷ ns) ≡ Some x
    found_later n ns key x sorted found = elim (eq_by_cmp R key n.0) as
        (λ b. eq_by_cmp R key n.0 ≡ b → cond b (Some n.1) (find R key ns) ≡ Some x) [
          | true ↦ λ tied.
              let P : K → Type 0 = λ q. T (below_all R q ns) in
              let below : T (below_all R key ns) =
              subst P (sym (tie key n.0 tied)) (both_first _ _ sorted) in
              absurd (not_below_itself key ns x below found)
          | false ↦ λ apart. found
        ] refl

    -- at its key stands what an entry of a list in order has
    pub find_at : {A X : Type 0} (f : A → K × X) (xs : List A) (i : ℕ) (d : A)
        → T (is_sorted R (map f xs)) → i < length xs
        → find R (f (get_or xs i d)).0 (map f xs) ≡ Some (f (get_or xs i d)).1
    find_at f [] i d sorted within = absurd (omega (arith, within))
    find_at f (x ∷ xs) zero d sorted within =
        ap (λ b. cond b (Some (f x).1) (find R (f x).0 (map f xs)))
        (ap is_eq (tied_itself total (f x).0))
    find_at f (x ∷ xs) (suc i) d sorted within =
        let later : i < length xs = omega (arith, within) in
        found_later (f x) (map f xs) _ _ sorted (find_at f xs i d (both_second _ _ sorted) later)

    -- a key among keys that are all above another is above it
    pub above_all : {X : Type 0} (q : K) (es : List (K × X)) (key : K) (x : X)
        → T (below_all R q es) → find R key es ≡ Some x → R q key ≡ Less
    above_all q [] key x below = λ found. let clash : None ≡ Some x = found in cc
    above_all q (e ∷ es) key x below = elim (eq_by_cmp R key e.0) as
        (λ b. eq_by_cmp R key e.0 ≡ b → cond b (Some e.1) (find R key es) ≡ Some x → R q key ≡ Less) [
          | true ↦ λ tied found. ap (R q) (tie key e.0 tied) ∙ lt_is_less _ (both_first _ _ below)
          | false ↦ λ apart found. above_all q es key x (both_second _ _ below) found
        ] refl
