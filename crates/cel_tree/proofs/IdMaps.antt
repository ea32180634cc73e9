-- Maps from ids, and the maps that they stand for.
use Rattle.std.proofs.Common.{◌≡◌, ℤ, true, false, cond, List, [], ◌∷◌, map, Option, Some, None, option_map, Bor, refl, sym, ap, ◌∙◌}
use Rattle.std.specs.Cmp.{int_cmp_total}
use Rattle.std.specs.FinMap.{FinMap, find, get, insert, from_entries, same_map, get-from_entries, get-insert, int_cmp-IsAntisymmetric}
use Rattle.std.specs.FinMap.Entries.{put, by_order, find-put}
use Rattle.std.specs.Option.{option_copied}
use Rattle.std.specs.Ordering.{int_cmp, eq_by_cmp, is_eq}
use Rattle.std.specs.declared.cmp.Ordering.TheVariants.{Less, Equal, Greater}

module _ {V X : Type 0} (view : V → X) where
  -- the map that entries stand for
  abbrev pub seen : List (ℤ × V) → FinMap int_cmp X
  seen es = from_entries (map (λ e. (e.0, view e.1)) es)

  view_put : (es : List (ℤ × V)) (k : ℤ) (v : V)
      → map (λ e. (e.0, view e.1)) (put int_cmp k v es) ≡ put int_cmp k (view v) (map (λ e. (e.0, view e.1)) es)
  view_put [] k v = refl
  view_put (e ∷ es) k v =
      let rest : List (ℤ × X) = map (λ x. (x.0, view x.1)) es in
      let new : ℤ × X = (k, view v) in
      let old : ℤ × X = (e.0, view e.1) in
      let over : ℤ × X = (e.0, view v) in
      let put_in : ℤ × V = (k, v) in
      let put_over : ℤ × V = (e.0, v) in
      let seen_all : List (ℤ × V) → List (ℤ × X) = λ xs. map (λ x. (x.0, view x.1)) xs in
      elim (int_cmp k e.0) as
      (λ o. seen_all (by_order o (put_in ∷ e ∷ es) (put_over ∷ es) (e ∷ put int_cmp k v es))
      ≡ by_order o (new ∷ old ∷ rest) (over ∷ rest) (old ∷ put int_cmp k (view v) rest)) [
        | Less ↦ refl
        | Equal ↦ refl
        | Greater ↦ ap (λ xs. old ∷ xs) (view_put es k v)
      ]

  -- one entry more
  pub seen_put : (es : List (ℤ × V)) (k : ℤ) (v : V) → seen (put int_cmp k v es) ≡ insert (seen es) k (view v)
  seen_put es k v = same_map int_cmp_total int_cmp-IsAntisymmetric _ _ (λ q.
      get-from_entries int_cmp_total (map (λ e. (e.0, view e.1)) (put int_cmp k v es)) q
      ∙ ap (find int_cmp q) (view_put es k v)
      ∙ find-put int_cmp int_cmp_total q k (view v) (map (λ e. (e.0, view e.1)) es)
      ∙ ap (cond (eq_by_cmp int_cmp q k) (Some (view v))) (sym (get-from_entries int_cmp_total (map (λ e. (e.0, view e.1)) es) q))
      ∙ sym (get-insert int_cmp_total (seen es) k (view v) q))

  seen_find : (es : List (ℤ × V)) (k : ℤ)
      → option_map view (find int_cmp k es) ≡ find int_cmp k (map (λ e. (e.0, view e.1)) es)
  seen_find [] k = refl
  seen_find (e ∷ es) k = elim (is_eq (int_cmp k e.0)) as
      (λ b. option_map view (cond b (Some e.1) (find int_cmp k es))
      ≡ cond b (Some (view e.1)) (find int_cmp k (map (λ x. (x.0, view x.1)) es))) [
        | true ↦ refl
        | false ↦ seen_find es k
      ]

  copied_map : (o : Option (Bor V)) → option_map (λ e. view e.now) o ≡ option_map view (option_copied o)
  copied_map None = refl
  copied_map (Some e) = refl

  -- what stands at an id
  pub seen_get : (es : List (ℤ × V)) (k : ℤ) (o : Option (Bor V)) → option_copied o ≡ find int_cmp k es
      → option_map (λ e. view e.now) o ≡ get (seen es) k
  seen_get es k o is =
      copied_map o ∙ ap (option_map view) is ∙ seen_find es k
      ∙ sym (get-from_entries int_cmp_total (map (λ e. (e.0, view e.1)) es) k)
