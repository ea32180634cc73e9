-- Entries in ascending order of ids: where an id stands among them, and what is put there.
use Rattle.std.proofs.Common.{◌≡◌, ℕ, ℤ, zero, suc, ◌<◌, T, true, false, cond, take, drop, get_or, length, slice_index_or, slice_set, List, [], ◌∷◌, ◌++◌, Some, None, arith, refl, sym, ap, subst, ◌∙◌}
use Rattle.std.specs.Cmp.{int_cmp_total}
use Rattle.std.specs.FinMap.{find, is_sorted, put, int_cmp-IsAntisymmetric}
use Rattle.std.specs.FinMap.Entries.{below_all, by_order, is_sorted-put}
use Rattle.std.specs.List.{insert}
use Rattle.std.specs.Ordering.{int_cmp, is_eq, is_lt, ordering_reverse}
use Rattle.std.specs.declared.cmp.Ordering.{Ordering}
use Rattle.std.specs.declared.cmp.Ordering.TheVariants.{Less, Equal, Greater}
use Rattle.std.proofs.lemmas.List.{take-append-drop}
use Rattle.proto_wire.proofs.MapOrder.{both_first, both_second, lt_is_less}
use Rattle.cel_tree.specs.private.Places.{AllAbove, AllBelow, IsPlace, StartsAbove, starts_with}
pub use Rattle.cel_value.proofs.Places.{is_lt_less as is_less}

-- ---- orders of two ids, turned round

turned_less : (a b : ℤ) → int_cmp a b ≡ Less → int_cmp b a ≡ Greater
turned_less a b less = int_cmp_total.antisymm b a ∙ ap ordering_reverse less

turned_equal : (a b : ℤ) → int_cmp a b ≡ Equal → int_cmp b a ≡ Equal
turned_equal a b tied = int_cmp_total.antisymm b a ∙ ap ordering_reverse tied

turned_greater : (a b : ℤ) → int_cmp a b ≡ Greater → int_cmp b a ≡ Less
turned_greater a b greater = int_cmp_total.antisymm b a ∙ ap ordering_reverse greater

is_equal : (o : Ordering) → is_eq o ≡ true → o ≡ Equal
is_equal Less eq = absurd cc
is_equal Equal eq = refl
is_equal Greater eq = absurd cc

is_greater : (o : Ordering) → is_lt o ≡ false → is_eq o ≡ false → o ≡ Greater
is_greater Less lt eq = absurd cc
is_greater Equal lt eq = absurd cc
is_greater Greater lt eq = refl

module _ {V : Type 0} where
  -- an id below all is below each
  below_at : (k : ℤ) (es : List (ℤ × V)) (i : ℕ) (d : ℤ × V) → T (below_all int_cmp k es) → i < length es
      → int_cmp k (get_or es i d).0 ≡ Less
  below_at k [] i d below within = absurd (omega (arith, within))
  below_at k (e ∷ es) zero d below within = lt_is_less _ (both_first _ _ below)
  below_at k (e ∷ es) (suc i) d below within = below_at k es i d (both_second _ _ below) (omega (arith, within))

  -- up to an entry whose id is below another, all are
  pub below_take : (id : ℤ) (es : List (ℤ × V)) (i n : ℕ) (d : ℤ × V) → T (is_sorted int_cmp es) → i < length es
      → int_cmp (get_or es i d).0 id ≡ Less → n ≡ suc i → AllBelow id (take n es)
  below_take id es i zero d sorted within less next = absurd (omega (arith, next))
  below_take id [] i (suc n) d sorted within less next = absurd (omega (arith, within))
  below_take id (e ∷ es) zero (suc n) d sorted within less next =
      let none : n ≡ zero = omega (arith, next) in rw none (less, tt)
  below_take id (e ∷ es) (suc i) (suc n) d sorted within less next =
      let later : i < length es = omega (arith, within) in
      let before : n ≡ suc i = omega (arith, next) in (
        int_cmp_total.trans e.0 (get_or es i d).0 id (below_at e.0 es i d (both_first _ _ sorted) later) less,
        below_take id es i n d (both_second _ _ sorted) later less before,
      )

  above_all : (id k : ℤ) (es : List (ℤ × V)) → int_cmp id k ≡ Less → T (below_all int_cmp k es) → AllAbove id es
  above_all id k [] less below = tt
  above_all id k (e ∷ es) less below = (
    turned_less id e.0 (int_cmp_total.trans id k e.0 less (lt_is_less _ (both_first _ _ below))),
    above_all id k es less (both_second _ _ below),
  )

  -- from an entry whose id is above another, all are
  pub above_drop : (id : ℤ) (es : List (ℤ × V)) (i : ℕ) (d : ℤ × V) → T (is_sorted int_cmp es) → i < length es
      → int_cmp (get_or es i d).0 id ≡ Greater → AllAbove id (drop i es)
  above_drop id [] i d sorted within greater = absurd (omega (arith, within))
  above_drop id (e ∷ es) zero d sorted within greater =
      (greater, above_all id e.0 es (turned_greater e.0 id greater) (both_first _ _ sorted))
  above_drop id (e ∷ es) (suc i) d sorted within greater =
      above_drop id es i d (both_second _ _ sorted) (omega (arith, within)) greater

  -- the value of the entry with an id
  pub found_at : (id : ℤ) (es : List (ℤ × V)) (i : ℕ) (d f : ℤ × V) → T (is_sorted int_cmp es) → i < length es
      → int_cmp (get_or es i d).0 id ≡ Equal → find int_cmp id es ≡ Some (get_or es i f).1
  found_at id [] i d f sorted within tied = absurd (omega (arith, within))
  found_at id (e ∷ es) zero d f sorted within tied =
      ap (λ o. cond (is_eq o) (Some e.1) (find int_cmp id es)) (turned_equal e.0 id tied)
  found_at id (e ∷ es) (suc i) d f sorted within tied =
      let later : i < length es = omega (arith, within) in
      let before : int_cmp e.0 (get_or es i d).0 ≡ Less = below_at e.0 es i d (both_first _ _ sorted) later in
      let same : (get_or es i d).0 ≡ id = int_cmp-IsAntisymmetric _ _ tied in
      let less : int_cmp e.0 id ≡ Less = ap (int_cmp e.0) (sym same) ∙ before in
      ap (λ o. cond (is_eq o) (Some e.1) (find int_cmp id es)) (turned_less e.0 id less)
      ∙ found_at id es i d f (both_second _ _ sorted) later tied

  above_none : (id : ℤ) (es : List (ℤ × V)) → AllAbove id es → find int_cmp id es ≡ None
  above_none id [] above = refl
  above_none id (e ∷ es) above =
      ap (λ o. cond (is_eq o) (Some e.1) (find int_cmp id es)) (turned_greater e.0 id above.0)
      ∙ above_none id es above.1

  none_between : (id : ℤ) (xs ys : List (ℤ × V)) → AllBelow id xs → AllAbove id ys → find int_cmp id (xs ++ ys) ≡ None
  none_between id [] ys below above = above_none id ys above
  none_between id (x ∷ xs) ys below above =
      ap (λ o. cond (is_eq o) (Some x.1) (find int_cmp id (xs ++ ys))) (turned_less x.0 id below.0)
      ∙ none_between id xs ys below.1 above

  -- no entry has an id that is above some and below all others
  pub not_found : (id : ℤ) (es : List (ℤ × V)) (i : ℕ) → AllBelow id (take i es) → AllAbove id (drop i es)
      → find int_cmp id es ≡ None
  not_found id es i below above =
      ap (find int_cmp id) (sym (take-append-drop i es)) ∙ none_between id (take i es) (drop i es) below above

  put_behind : (id : ℤ) (v : V) (xs ys : List (ℤ × V)) → AllBelow id xs
      → put int_cmp id v (xs ++ ys) ≡ xs ++ put int_cmp id v ys
  put_behind id v [] ys below = refl
  put_behind id v (x ∷ xs) ys below =
      ap (λ o. by_order o ((id, v) ∷ x ∷ xs ++ ys) ((x.0, v) ∷ xs ++ ys) (x ∷ put int_cmp id v (xs ++ ys)))
      (turned_less x.0 id below.0)
      ∙ ap (λ es. x ∷ es) (put_behind id v xs ys below.1)

  -- an entry is put at its place
  pub put_at_place : (id : ℤ) (v : V) (es : List (ℤ × V)) (at : ℕ) → IsPlace id es at
      → put int_cmp id v es ≡ take at es ++ put int_cmp id v (drop at es)
  put_at_place id v es at place =
      ap (put int_cmp id v) (sym (take-append-drop at es)) ∙ put_behind id v (take at es) (drop at es) place.before

  -- an id that is new goes before those that are not below it
  put_front : (id : ℤ) (v : V) (es : List (ℤ × V)) → StartsAbove id es → starts_with id es ≡ false
      → put int_cmp id v es ≡ (id, v) ∷ es
  put_front id v [] above new = refl
  put_front id v (e ∷ es) above new =
      ap (λ o. by_order o ((id, v) ∷ e ∷ es) ((e.0, v) ∷ es) (e ∷ put int_cmp id v es))
      (turned_greater e.0 id (is_greater _ above new))

  -- an entry of a new id is put in at its place
  pub put_new : (id : ℤ) (v : V) (es : List (ℤ × V)) (at : ℕ) → IsPlace id es at
      → starts_with id (drop at es) ≡ false → put int_cmp id v es ≡ insert es at (id, v)
  put_new id v es at place new =
      put_at_place id v es at place ∙ ap (λ rest. take at es ++ rest) (put_front id v (drop at es) place.behind new)

  put_there : (id : ℤ) (v : V) (es : List (ℤ × V)) (at : ℕ) (d : ℤ × V) → AllBelow id (take at es) → at < length es
      → starts_with id (drop at es) ≡ true → put int_cmp id v es ≡ slice_set es at ((slice_index_or es at d).0, v)
  put_there id v [] at d below within old = absurd (omega (arith, within))
  put_there id v (e ∷ es) zero d below within old =
      ap (λ o. by_order o ((id, v) ∷ e ∷ es) ((e.0, v) ∷ es) (e ∷ put int_cmp id v es))
      (turned_equal e.0 id (is_equal _ old))
  put_there id v (e ∷ es) (suc at) d below within old =
      ap (λ o. by_order o ((id, v) ∷ e ∷ es) ((e.0, v) ∷ es) (e ∷ put int_cmp id v es)) (turned_less e.0 id below.0)
      ∙ ap (λ rest. e ∷ rest) (put_there id v es at d below.1 (omega (arith, within)) old)

  -- the entry of an id that is there has another value then
  pub put_old : (id : ℤ) (v : V) (es : List (ℤ × V)) (at : ℕ) (d : ℤ × V) → IsPlace id es at → at < length es
      → starts_with id (drop at es) ≡ true → put int_cmp id v es ≡ slice_set es at ((slice_index_or es at d).0, v)
  put_old id v es at d place within old = put_there id v es at d place.before within old

  -- entries stay in order
  pub put_sorted : (id : ℤ) (v : V) (es new : List (ℤ × V)) → put int_cmp id v es ≡ new → T (is_sorted int_cmp es)
      → T (is_sorted int_cmp new)
  put_sorted id v es new is sorted =
      let P : List (ℤ × V) → Type 0 = λ xs. T (is_sorted int_cmp xs) in
      subst P is (is_sorted-put int_cmp int_cmp_total id v es sorted)
