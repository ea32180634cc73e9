-- A binary search by key in ascending entries finds the value of the key, or its place.
use Rattle.std.proofs.Common.{◌≡◌, ℕ, ◌+◌, ◌<◌, ◌≤◌, Bool, true, false, List, [], ◌∷◌, ◌++◌, Some, None, Ok, Err, length, take, drop, get_or, refl, sym, ◌∙◌, ap, arith, suc, zero, ◌⊎◌, inl, inr}
use Rattle.std.specs.declared.cmp.Ordering.{Ordering}
use Rattle.std.specs.declared.cmp.Ordering.TheVariants.{Less, Greater}
use Rattle.std.specs.Ordering.{is_lt, is_eq, ordering_reverse}
use Rattle.std.specs.Fn.{Called, ComputesKey}
use Rattle.std.specs.List.Sorted.{IsSortedBy, IsBinarySearchResult}
use Rattle.std.proofs.lemmas.Bool.{cases_lt}
use Rattle.std.proofs.lemmas.Fn.{always_returns_same}
use Rattle.std.proofs.lemmas.List.Sorted.{searchable_from_sorted}
use denote.Param.Members.{Mut}
use denote.Ref.{Bor}
use Rattle.cel_value.specs.Values.{CelKey, CelValue, CelEntries, no_entries, entry}
use Rattle.cel_value.specs.Keys.{get, key_cmp, AllAbove, IsAscending, put}
use Rattle.cel_value.specs.Equality.{key_eq}
use Rattle.cel_value.specs.private.EqualityLaws.{key_eq_decides}
use Rattle.cel_value.proofs.Places.{key_eq_cmp, key_cmp_total}

-- entries made of any items that have a key and a value
module _ {X : Type 0} (key : X → CelKey) (val : X → CelValue) where
  abbrev pub made_of : List X → CelEntries
  made_of [] = no_entries
  made_of (x ∷ xs) = entry (key x) (val x) (made_of xs)

  above_item : (k : CelKey) (xs : List X) (i : ℕ) (d : X) → i < length xs
      → AllAbove k (made_of xs) → key_cmp k (key (get_or xs i d)) ≡ Less
  above_item k [] i d below a = absurd (omega arith)
  above_item k (x ∷ xs) zero d below a = a.0
  above_item k (x ∷ xs) (suc i) d below a = above_item k xs i d (omega arith) a.1

  less_apart : (j k : CelKey) → key_cmp j k ≡ Less → key_eq j k ≡ false
  less_apart j k h = key_eq_cmp j k ∙ ap is_eq h

  -- the value at the key of an item is the item's
  pub get_index : (q : CelKey) (xs : List X) (i : ℕ) (d : X) → IsAscending (made_of xs)
      → i < length xs → key_eq (key (get_or xs i d)) q ≡ true
      → get (made_of xs) q ≡ Some (val (get_or xs i d))
  get_index q [] i d up below same = absurd (omega arith)
  get_index q (x ∷ xs) zero d up below same = rw same refl
  get_index q (x ∷ xs) (suc i) d up below same =
      let at : key (get_or xs i d) ≡ q = (key_eq_decides (key (get_or xs i d)) q).0 same in
      let first : key_cmp (key x) (key (get_or xs i d)) ≡ Less =
      above_item (key x) xs i d (omega arith) up.0 in
      let differ : key_eq (key x) q ≡ false =
      less_apart (key x) q (ap (key_cmp (key x)) (sym at) ∙ first) in
      rw differ (get_index q xs i d up.1 (omega arith) same)

  pub get_nowhere : (q : CelKey) (xs : List X)
      → ((i : ℕ) (d : X) → i < length xs → key_eq (key (get_or xs i d)) q ≡ false)
      → get (made_of xs) q ≡ None
  get_nowhere q [] h = refl
  get_nowhere q (x ∷ xs) h =
      rw (h 0 x (omega arith)) (get_nowhere q xs (λ i d below. h (suc i) d (omega arith)))

  abbrev key_lt : X → X → Bool
  key_lt x y = is_lt (key_cmp (key x) (key y))

  sorted : (xs : List X) → IsAscending (made_of xs) → IsSortedBy key_lt xs
  sorted [] up k d low high = absurd (omega arith)
  sorted (x ∷ []) up k d low high = absurd (omega arith)
  sorted (x ∷ y ∷ xs) up zero d low high =
      ap is_lt (key_cmp_total.antisymm (key y) (key x))
      ∙ ap (λ o. is_lt (ordering_reverse o)) up.0.0
  sorted (x ∷ y ∷ xs) up (suc k) d low high =
      let next : suc k + 1 ≡ suc (k + 1) = omega arith in
      rw next (sorted (y ∷ xs) up.1 k d (omega arith) (omega arith))

  -- an item put before the first above it is the entry put at its place
  put_here : (x : X) (xs : List X) → IsAscending (made_of xs) → AllAbove (key x) (made_of xs)
      → made_of (x ∷ xs) ≡ put (key x) (val x) (made_of xs)
  put_here x [] up a = refl
  put_here x (y ∷ ys) up a = rw (ap is_lt a.0) refl

  all_above : (k : CelKey) (xs : List X)
      → ((i : ℕ) (d : X) → i < length xs → key_cmp k (key (get_or xs i d)) ≡ Less)
      → AllAbove k (made_of xs)
  all_above k [] h = tt
  all_above k (x ∷ xs) h =
      (h 0 x (omega arith), all_above k xs (λ i d below. h (suc i) d (omega arith)))

  turned : (j k : CelKey) → key_cmp j k ≡ Greater → key_cmp k j ≡ Less
  turned j k h = key_cmp_total.antisymm k j ∙ ap ordering_reverse h

  pub put_place : (x : X) (xs : List X) (i : ℕ) → i ≤ length xs → IsAscending (made_of xs)
      → ((k : ℕ) (d : X) → k < i → key_cmp (key (get_or xs k d)) (key x) ≡ Less)
      → ((k : ℕ) (d : X) → i ≤ k → k < length xs
      → key_cmp (key (get_or xs k d)) (key x) ≡ Greater)
      → made_of (take i xs ++ x ∷ drop i xs) ≡ put (key x) (val x) (made_of xs)
  put_place x xs zero within up low high =
      put_here x xs up
      (all_above (key x) xs (λ k d below. turned (key (get_or xs k d)) (key x) (high k d
      (omega arith) below)))
  put_place x [] (suc i) within up low high = absurd (omega arith)
  put_place x (y ∷ ys) (suc i) within up low high =
      let first : key_cmp (key y) (key x) ≡ Less = low 0 y (omega arith) in
      let back : is_lt (key_cmp (key x) (key y)) ≡ false =
      ap is_lt (key_cmp_total.antisymm (key x) (key y))
      ∙ ap (λ o. is_lt (ordering_reverse o)) first in
      rw back (ap (entry (key y) (val y)) (put_place x ys i (omega arith) up.1
      (λ k d below. low (suc k) d (omega arith))
      (λ k d above below. high (suc k) d (omega arith) (omega arith))))

  -- what the closure that the search is given answers
  module _ (q : CelKey) {F : Type 0} {g : Mut F (Bor X × Unit {0}) Ordering} {f : F}
      (answers : (a : Bor X × Unit {0}) (r : Ordering) (f' : F) → Called g f a r f'
      → (r ≡ key_cmp (key a.0.now) q) × (f' ≡ f)) where
    abbrev place : X → Ordering
    place x = key_cmp (key x) q

    by_key : ComputesKey g place f
    by_key = always_returns_same g (λ a r. r ≡ place a.0.now) f answers

    pub get_found : (xs : List X) (i : ℕ) (d : X) → IsAscending (made_of xs)
        → i < length xs
        → ((ord : X → Ordering) → ComputesKey g ord f → IsBinarySearchResult ord xs (Ok i))
        → get (made_of xs) q ≡ Some (val (get_or xs i d))
    get_found xs i d up below found =
        get_index q xs i d up below
        (key_eq_cmp (key (get_or xs i d)) q ∙ ap is_eq (found place by_key d))

    pub get_absent : (xs : List X) (i : ℕ) → IsAscending (made_of xs)
        → ((ord : X → Ordering) → ComputesKey g ord f → IsBinarySearchResult ord xs (Err i))
        → get (made_of xs) q ≡ None
    get_absent xs i up found =
        let halves = found place by_key
        (searchable_from_sorted key_cmp_total key xs q (sorted xs up)) in
        let differs : (o : Ordering) → (o ≡ Less) ⊎ (o ≡ Greater) → is_eq o ≡ false =
        λ o h. elim h [ inl less ↦ ap is_eq less | inr greater ↦ ap is_eq greater ] in
        get_nowhere q xs
        (λ k d below. key_eq_cmp (key (get_or xs k d)) q
        ∙ differs (place (get_or xs k d)) (elim (cases_lt k i) [
          | inl first ↦ inl (halves.0 k d (omega arith) first)
          | inr last ↦ inr (halves.1 k d last below)
        ]))

    pub put_absent : (x : X) (xs : List X) (i : ℕ) → key x ≡ q → i ≤ length xs
        → IsAscending (made_of xs)
        → ((ord : X → Ordering) → ComputesKey g ord f → IsBinarySearchResult ord xs (Err i))
        → made_of (take i xs ++ x ∷ drop i xs) ≡ put (key x) (val x) (made_of xs)
    put_absent x xs i same within up found =
        let halves = found place by_key
        (searchable_from_sorted key_cmp_total key xs q (sorted xs up)) in
        put_place x xs i within up
        (λ k d low. ap (key_cmp (key (get_or xs k d))) same ∙ halves.0 k d (omega arith) low)
        (λ k d high below. ap (key_cmp (key (get_or xs k d))) same ∙ halves.1 k d high below)
