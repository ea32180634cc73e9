-- Which files of a record stay open.
use Rattle.std.proofs.Common.{◌≡◌, ◌⊎◌, ◌++◌, ◌∙◌, ℕ, Bool, if◌then◌else◌, true, false, List, [], ◌∷◌, Option, inl, inr, refl, sym, ap, drop, subst, take}
use Rattle.std.specs.List.{items_where_true}
use Rattle.serve_log.specs.Files.{NoneTake, StayOpen, Takes}
use Rattle.serve_log.specs.declared.record_file.RecordFile.{RecordFile}
use Rattle.serve_log.proofs.FileLemmas.{takes_then, unchanged}

module _ {W : Type 0} (contents : W → Option (List ℕ)) where
  -- all stay open
  pub stay_all : (xs ys : List (RecordFile W)) → NoneTake contents xs ys → StayOpen contents xs ys
  stay_all [] [] h = refl
  stay_all [] (y ∷ ys) h = absurd h
  stay_all (x ∷ xs) [] h = absurd h
  stay_all (x ∷ xs) (y ∷ ys) (first, rest) = inr (y, ys, refl, first, stay_all xs ys rest)

  pub stay_same : (xs : List (RecordFile W)) → StayOpen contents xs xs
  stay_same [] = refl
  stay_same (x ∷ xs) = inr (x, xs, refl, unchanged contents x, stay_same xs)

  -- those of which a test said `true` stay open
  pub stay_chosen : (bs : List Bool) (xs : List (RecordFile W)) → StayOpen contents xs (items_where_true bs xs)
  stay_chosen [] [] = refl
  stay_chosen [] (x ∷ xs) = inl (stay_chosen [] xs)
  stay_chosen (b ∷ bs) [] = refl
  stay_chosen (true ∷ bs) (x ∷ xs) = inr (x, items_where_true bs xs, refl, unchanged contents x, stay_chosen bs xs)
  stay_chosen (false ∷ bs) (x ∷ xs) = inl (stay_chosen bs xs)

  -- some stay open, and then some of these
  pub stay_then : (xs ys zs : List (RecordFile W)) → StayOpen contents xs ys → StayOpen contents ys zs → StayOpen contents xs zs
  stay_then [] ys zs h k = subst (λ l. StayOpen contents l zs) h k
  stay_then (x ∷ xs) ys zs (inl rest) k = inl (stay_then xs ys zs rest k)
  stay_then (x ∷ xs) [] zs (inr (y, rest, are, first, others)) k = absurd cc
  stay_then (x ∷ xs) (w ∷ ys) zs (inr (y, rest, are, first, others)) (inl k) =
      let tail : rest ≡ ys = cc in
      inl (stay_then xs ys zs (subst (StayOpen contents xs) tail others) k)
  stay_then (x ∷ xs) (w ∷ ys) zs (inr (y, rest, are, first, others)) (inr (z, more, is, second, k)) =
      let head : y ≡ w = cc in
      let tail : rest ≡ ys = cc in
      let before : Takes contents [] x w 0 = subst (λ file. Takes contents [] x file 0) head first in
      inr (z, more, is, takes_then contents x w z [] [] 0 0 before second, stay_then xs ys more (subst (StayOpen contents xs) tail others) k)

  -- one file more, which stays open and takes no event
  pub stay_next : (xs ys : List (RecordFile W)) (x y : RecordFile W) → StayOpen contents xs ys → Takes contents [] x y 0
      → StayOpen contents (xs ++ x ∷ []) (ys ++ y ∷ [])
  stay_next [] ys x y h k = inr (y, [], ap (λ l. l ++ y ∷ []) h, k, refl)
  stay_next (w ∷ xs) ys x y (inl rest) k = inl (stay_next xs ys x y rest k)
  stay_next (w ∷ xs) ys x y (inr (z, rest, are, first, others)) k =
      inr (z, rest ++ y ∷ [], ap (λ l. l ++ y ∷ []) are, first, stay_next xs rest x y others k)

  -- one file more, which stays open or is closed
  pub stay_more : (xs ys : List (RecordFile W)) (x : RecordFile W) → StayOpen contents xs ys
      → StayOpen contents (xs ++ x ∷ []) (ys ++ x ∷ [])
  stay_more xs ys x h = stay_next xs ys x x h (unchanged contents x)

  pub stay_without : (xs ys : List (RecordFile W)) (x : RecordFile W) → StayOpen contents xs ys
      → StayOpen contents (xs ++ x ∷ []) ys
  stay_without [] ys x h = inl h
  stay_without (w ∷ xs) ys x (inl rest) = inl (stay_without xs ys x rest)
  stay_without (w ∷ xs) ys x (inr (y, rest, are, first, others)) =
      inr (y, rest, are, first, stay_without xs rest x others)

  -- one file more, if there is room for it
  pub stay_pushed : (is_kept : Bool) (xs ys : List (RecordFile W)) (x : RecordFile W)
      → ys ≡ (if is_kept then xs ++ x ∷ [] else xs) → StayOpen contents (xs ++ x ∷ []) ys
  stay_pushed true xs ys x is = subst (StayOpen contents (xs ++ x ∷ [])) (sym is) (stay_same (xs ++ x ∷ []))
  stay_pushed false xs ys x is =
      subst (StayOpen contents (xs ++ x ∷ [])) (sym is) (stay_without xs xs x (stay_same xs))

  -- the first is closed
  pub stay_later : (xs : List (RecordFile W)) → StayOpen contents xs (drop 1 xs)
  stay_later [] = refl
  stay_later (x ∷ xs) = inl (stay_same xs)
