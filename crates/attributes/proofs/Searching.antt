-- A binary search by name in ascending headers finds the place of the name.
use Rattle.std.proofs.Common.{◌≡◌, ℕ, ◌+◌, ◌<◌, ◌≤◌, Bool, T, IsTrue, List, [], ◌∷◌, Result, Ok, Err, Some, length, map, get_or, refl, sym, ◌∙◌, ap, arith, suc, zero}
use Rattle.std.specs.declared.cmp.Ordering.{Ordering}
use Rattle.std.specs.declared.cmp.Ordering.TheVariants.{Greater}
use Rattle.std.specs.FinMap.{find, is_sorted}
use Rattle.std.specs.Fn.{Called, ComputesKey}
use Rattle.std.specs.List.Sorted.{IsSortedBy, IsBinarySearchResult, IsSearchInRange}
use Rattle.std.specs.Ordering.{is_lt, ordering_reverse}
use Rattle.std.proofs.lemmas.Cmp.{nat_list_cmp_total}
use Rattle.std.proofs.lemmas.Fn.{always_returns_same}
use Rattle.std.proofs.lemmas.List.{length-map}
use Rattle.std.proofs.lemmas.List.Sorted.{searchable_from_sorted}
use Rattle.std.proofs.lemmas.Option.{slice_get-get_or}
use Rattle.std.proofs.Math.ListN.{get_or-map}
use denote.Param.Members.{Mut}
use denote.Ref.{Bor}
use Rattle.attributes.specs.Headers.{Entry, name_cmp}
use Rattle.attributes.specs.private.Headers.{IsPlace}
use Rattle.attributes.proofs.Places.{put_at, put_between}
use Rattle.attributes.proofs.TextOrder.{IsBefore, both_first, both_second, less_from_test, names_differ, t_from_true}

-- the order of headers by name
abbrev name_lt : {X : Type 0} → (X → Entry) → X → X → Bool
name_lt view x y = is_lt (name_cmp (view x).0 (view y).0)

-- ascending headers are sorted as a search asks
is_sorted_by_ascending : {X : Type 0} (view : X → Entry) (xs : List X)
    → T (is_sorted name_cmp (map view xs)) → IsSortedBy (name_lt view) xs
is_sorted_by_ascending view [] up k d low high = absurd (omega arith)
is_sorted_by_ascending view (x ∷ []) up k d low high = absurd (omega arith)
is_sorted_by_ascending view (x ∷ y ∷ xs) up zero d low high =
    let first : IsBefore (view x).0 (view y).0 =
    less_from_test _ (both_first _ _ (both_first _ _ up)) in
    ap is_lt (nat_list_cmp_total.antisymm (view y).0 (view x).0)
    ∙ ap (λ o. is_lt (ordering_reverse o)) first
is_sorted_by_ascending view (x ∷ y ∷ xs) up (suc k) d low high =
    let next : suc k + 1 ≡ suc (k + 1) = omega arith in
    rw next (is_sorted_by_ascending view (y ∷ xs) (both_second _ _ up) k d (omega arith) (omega arith))

-- a header at an index, as it is kept
kept_at : {X : Type 0} (view : X → Entry) (xs : List X) (k : ℕ) (d : Entry) → k < length xs
    → (x : X) × (get_or (map view xs) k d ≡ view (get_or xs k x))
kept_at view [] k d below = absurd (omega arith)
kept_at view (x ∷ xs) zero d below = (x, refl)
kept_at view (x ∷ xs) (suc k) d below = kept_at view xs k d (omega arith)

-- a header that has the name is the one of that name
pub found_at : {X : Type 0} (view : X → Entry) (name : List ℕ) (xs : List X) (i : ℕ) (x : X)
    → IsTrue (is_sorted name_cmp (map view xs)) → i < length xs → x ≡ get_or xs i x
    → (view x).0 ≡ name → Some (view x).1 ≡ find name_cmp name (map view xs)
found_at view name xs i x up below there same =
    let es : List Entry = map view xs in
    let long : length es ≡ length xs = length-map xs view in
    let at : get_or es i (view x) ≡ view x =
    get_or-map view xs i x ∙ ap view (sym there) in
    let named : (get_or es i (view x)).0 ≡ name = ap (λ (e : Entry). e.0) at ∙ same in
    let found = put_at name [] es i (view x) (t_from_true _ up) (omega (arith, long, below))
    named in
    sym (found.1 ∙ ap (λ (e : Entry). Some e.1) at)

-- what the closure that the search is given answers
module _ {X : Type 0} (view : X → Entry) (name : List ℕ)
    {F : Type 0} {g : Mut F (Bor X × Unit {0}) Ordering} {f : F}
    (answers : (a : Bor X × Unit {0}) (r : Ordering) (f' : F) → Called g f a r f'
    → (r ≡ name_cmp (view a.0.now).0 name) × (f' ≡ f)) where
  abbrev place : X → Ordering
  place x = name_cmp (view x).0 name

  by_name : ComputesKey g place f
  by_name = always_returns_same g (λ a r. r ≡ place a.0.now) f answers

  pub is_place_searched : (xs : List X) (r : Result ℕ ℕ) → IsSearchInRange r (length xs)
      → ((ord : X → Ordering) → ComputesKey g ord f → IsBinarySearchResult ord xs r)
      → IsTrue (is_sorted name_cmp (map view xs)) → IsPlace name (map view xs) r
  is_place_searched [] (Ok i) fits searched up = absurd (omega arith)
  is_place_searched (x ∷ xs) (Ok i) fits searched up =
      let es : List Entry = map view (x ∷ xs) in
      let long : length es ≡ length (x ∷ xs) = length-map (x ∷ xs) view in
      let below : i < length es = omega (arith, long) in
      let d : Entry = view x in
      let at : get_or es i d ≡ view (get_or (x ∷ xs) i x) =
      get_or-map view (x ∷ xs) i x in
      let same : (get_or es i d).0 ≡ name =
      ap (λ (e : Entry). e.0) at ∙ names_differ _ _ (searched place by_name x) in
      let found = λ (w : List ℕ). put_at name w es i d (t_from_true _ up) below same in
      let named : List ℕ → Entry = λ n. (n, (get_or es i d).1) in (
        (get_or es i d).1,
        slice_get-get_or es i d below ∙ ap (λ n. Some (named n)) same,
        (found []).1,
        λ w. (found w).0,
      )
  is_place_searched xs (Err i) fits searched up =
      let es : List Entry = map view xs in
      let sorted : T (is_sorted name_cmp es) = t_from_true _ up in
      let parted = searched place by_name
      (searchable_from_sorted nat_list_cmp_total (λ (x : X). (view x).0) xs name
      (is_sorted_by_ascending view xs sorted)) in
      let long : length es ≡ length xs = length-map xs view in
      let low : (k : ℕ) (d : Entry) → k < i → IsBefore (get_or es k d).0 name =
      λ k d first. let kept = kept_at view xs k d (omega arith) in
      ap (λ (e : Entry). name_cmp e.0 name) kept.1 ∙ parted.0 k kept.0 (omega arith) first in
      let high : (k : ℕ) (d : Entry) → i ≤ k → k < length es
      → name_cmp (get_or es k d).0 name ≡ Greater =
      λ k d last below. let kept = kept_at view xs k d (omega (arith, long)) in
      ap (λ (e : Entry). name_cmp e.0 name) kept.1 ∙ parted.1 k kept.0 last (omega (arith, long)) in
      let fits_view : i ≤ length es = omega (arith, long) in
      let between = λ (w : List ℕ). put_between name w es i fits_view low high in (
        fits_view,
        (between []).1,
        λ w. (between w).0,
      )

-- the place of a header that has the name is the place of the name
pub is_place_at : {X : Type 0} (view : X → Entry) (name : List ℕ) (xs : List X) (i : ℕ) (x : X)
    → IsTrue (is_sorted name_cmp (map view xs)) → i < length xs → x ≡ get_or xs i x
    → (view x).0 ≡ name → IsPlace name (map view xs) (Ok i)
is_place_at view name xs i x up below there same =
    let es : List Entry = map view xs in
    let d : Entry = view x in
    let long : length es ≡ length xs = length-map xs view in
    let under : i < length es = omega (arith, long, below) in
    let at : get_or es i d ≡ d = get_or-map view xs i x ∙ ap view (sym there) in
    let named : (get_or es i d).0 ≡ name = ap (λ (e : Entry). e.0) at ∙ same in
    let found = λ (w : List ℕ). put_at name w es i d (t_from_true _ up) under named in
    let with_name : List ℕ → Entry = λ n. (n, (get_or es i d).1) in (
      (get_or es i d).1,
      slice_get-get_or es i d under ∙ ap (λ n. Some (with_name n)) named,
      (found []).1,
      λ w. (found w).0,
    )
