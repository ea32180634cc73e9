-- Where a name would stand among ascending names that lack it.
use Rattle.std.proofs.Common.{◌≡◌, ℕ, ◌+◌, ◌<◌, ◌≤◌, T, IsTrue, List, [], ◌∷◌, None, length, map, get_or, refl, sym, ap, ◌∙◌, arith, inl, inr, suc, zero}
use Rattle.std.specs.FinMap.{find, is_sorted}
use Rattle.std.specs.Ordering.{is_gt}
use Rattle.std.specs.declared.cmp.Ordering.{Ordering}
use Rattle.std.specs.declared.cmp.Ordering.TheVariants.{Less, Equal, Greater}
use Rattle.std.proofs.lemmas.Bool.{cases_lt}
use Rattle.std.proofs.lemmas.List.{get_or_default, length-map}
use Rattle.std.proofs.Math.ListN.{get_or-map}
use Rattle.attributes.specs.Headers.{Entry, name_cmp}
use Rattle.attributes.specs.private.Headers.{AreBefore, AreBehind}
use Rattle.attributes.proofs.Places.{above_first, put_between}
use Rattle.attributes.proofs.TextOrder.{IsBefore, after_from_before, before_from_greater, before_trans, both_first, both_second, t_from_true}

-- the test for what comes after
pub greater_from_test : (o : Ordering) → T (is_gt o) → o ≡ Greater
greater_from_test Less h = absurd h
greater_from_test Equal h = absurd h
greater_from_test Greater h = refl

-- of ascending names one is before each that stands behind it
ordered : (es : List Entry) (j k : ℕ) (d : Entry) → T (is_sorted name_cmp es) → j < k
    → k < length es → IsBefore (get_or es j d).0 (get_or es k d).0
ordered [] j k d up low high = absurd (omega arith)
ordered (e ∷ es) j zero d up low high = absurd (omega arith)
ordered (e ∷ es) zero (suc k) d up low high =
    above_first e.0 es k d (both_first _ _ up) (omega arith)
ordered (e ∷ es) (suc j) (suc k) d up low high =
    ordered es j k d (both_second _ _ up) (omega arith) (omega arith)

module _ (es : List Entry) (i : ℕ) (e : Entry) (name : List ℕ) (up : T (is_sorted name_cmp es))
    (below : i < length es) (there : get_or es i e ≡ e) where
  at : (d : Entry) → get_or es i d ≡ e
  at d = get_or_default es i d e below ∙ there

  all_before_entry : IsBefore e.0 name → AreBefore (i + 1) name es
  all_before_entry first k d under = elim (cases_lt k i) [
    | inl less ↦
        let earlier : IsBefore (get_or es k d).0 e.0 = rw (at d) at (ordered es k i d up less below) in
        before_trans _ e.0 name earlier first
    | inr more ↦
        let same : k ≡ i = omega (arith, under, more) in
        rw (same, at d) first
  ]

  all_behind_entry : name_cmp e.0 name ≡ Greater → AreBehind i name es
  all_behind_entry last k d from under = elim (cases_lt i k) [
    | inl more ↦
        let later : IsBefore e.0 (get_or es k d).0 = rw (at d) at (ordered es i k d up more under) in
        after_from_before name _ (before_trans name e.0 _ (before_from_greater e.0 name last) later)
    | inr less ↦
        let same : k ≡ i = omega (arith, from, less) in
        rw (same, at d) last
  ]

module _ {X : Type 0} (view : X → Entry) (xs : List X) (i : ℕ) (x : X) (name : List ℕ)
    (up : IsTrue (is_sorted name_cmp (map view xs))) (below : i < length xs)
    (there : x ≡ get_or xs i x) where
  kept : get_or (map view xs) i (view x) ≡ view x
  kept = get_or-map view xs i x ∙ ap view (sym there)

  under : i < length (map view xs)
  under = let long = length-map xs view in omega (arith, below, long)

  -- where the last of the headers before a place is before the name, all are
  all_before_header : IsBefore (view x).0 name → AreBefore (i + 1) name (map view xs)
  all_before_header = all_before_entry (map view xs) i (view x) name (t_from_true _ up) under kept

  -- where the first of the headers from a place on is after the name, all are
  all_behind_header : name_cmp (view x).0 name ≡ Greater → AreBehind i name (map view xs)
  all_behind_header = all_behind_entry (map view xs) i (view x) name (t_from_true _ up) under kept

-- the same for the header at a place, whatever stands for one past the end
module _ {X : Type 0} (view : X → Entry) (xs : List X) (i : ℕ) (d : X) (name : List ℕ)
    (up : IsTrue (is_sorted name_cmp (map view xs))) (below : i < length xs) where
  here : get_or xs i d ≡ get_or xs i (get_or xs i d)
  here = get_or_default xs i d (get_or xs i d) below

  pub all_before_place : IsBefore (view (get_or xs i d)).0 name → AreBefore (i + 1) name (map view xs)
  all_before_place = all_before_header view xs i (get_or xs i d) name up below here

  pub all_behind_place : name_cmp (view (get_or xs i d)).0 name ≡ Greater
      → AreBehind i name (map view xs)
  all_behind_place = all_behind_header view xs i (get_or xs i d) name up below here

-- a name between those before and those behind is not there
pub absent_between : {X : Type 0} (view : X → Entry) (xs : List X) (i : ℕ) (name : List ℕ)
    → i ≤ length xs → AreBefore i name (map view xs) → AreBehind i name (map view xs)
    → find name_cmp name (map view xs) ≡ None
absent_between view xs i name fits low high =
    let long : length (map view xs) ≡ length xs = length-map xs view in
    (put_between name [] (map view xs) i (omega (arith, fits, long)) low high).1
