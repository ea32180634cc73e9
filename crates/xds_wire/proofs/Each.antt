-- Messages and strings read one after the other: one more, and one with a fault.
use Rattle.std.proofs.Common.{◌≡◌, ℕ, zero, suc, ◌+◌, ◌<◌, inl, inr, List, [], ◌∷◌, ◌++◌, length, map, take, get_or, arith}
use Rattle.std.specs.Borrow.{Bor}
use Rattle.std.specs.List.{AllZip}
use Rattle.std.proofs.lemmas.List.{map_more, map-append}
use Rattle.proto_wire.specs.Merge.{parts_view, SomeOf}

-- the element at a place is one of the elements
pub some_part : (P : List ℕ → Type 0) (slices : List (Bor (List ℕ))) (i : ℕ) (d : Bor (List ℕ))
    → i < length slices → P (get_or slices i d).now → SomeOf P (parts_view slices)
some_part P [] i d within p = absurd (omega arith)
some_part P (s ∷ slices) zero d within p = inl p
some_part P (s ∷ slices) (suc i) d within p = inr (some_part P slices i d (omega arith) p)

-- one pair more
pub zip_push : {A B : Type 0} (R : A → B → Type 0) (xs : List A) (ys : List B) (x : A) (y : B)
    → AllZip R xs ys → R x y → AllZip R (xs ++ x ∷ []) (ys ++ y ∷ [])
zip_push R [] [] x y all more = (more, tt)
zip_push R [] (b ∷ ys) x y all more = absurd all
zip_push R (a ∷ xs) [] x y all more = absurd all
zip_push R (a ∷ xs) (b ∷ ys) x y (first, all) more = (first, zip_push R xs ys x y all more)

-- one message more
pub zip_more : {A M : Type 0} (R : List ℕ → M → Type 0) (view : A → M) (slices : List (Bor (List ℕ)))
    (i : ℕ) (d : Bor (List ℕ)) (items now : List A) (x : A)
    → i < length slices → AllZip R (parts_view (take i slices)) (map view items)
    → R (get_or slices i d).now (view x) → now ≡ items ++ x ∷ []
    → AllZip R (parts_view (take (i + 1) slices)) (map view now)
zip_more R view slices i d items now x within so_far is pushed =
    rw (pushed, map-append view items (x ∷ []), map_more (λ (s : Bor (List ℕ)). s.now) slices i d within)
    (zip_push R (parts_view (take i slices)) (map view items) (get_or slices i d).now (view x) so_far is)
