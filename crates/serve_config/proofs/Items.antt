-- What the items of an array are, one after another.
use Rattle.std.proofs.Common.{◌≡◌, ℕ, ◌+◌, ◌<◌, ◌++◌, ◌∷◌, List, [], get_or, length, map, take}
use Rattle.std.proofs.lemmas.List.{map_more}
use Rattle.std.specs.List.{AllZip}
use Rattle.serde_json.specs.Data.{Data}
use Rattle.serde_json.specs.View.{view}
use Rattle.serde_json.specs.declared.value.Value.{Value}

-- one pair more
zip_push : {A B : Type 0} (R : A → B → Type 0) (xs : List A) (ys : List B) (x : A) (y : B)
    → AllZip R xs ys → R x y → AllZip R (xs ++ x ∷ []) (ys ++ y ∷ [])
zip_push R [] [] x y all more = (more, tt)
zip_push R [] (b ∷ ys) x y all more = absurd all
zip_push R (a ∷ xs) [] x y all more = absurd all
zip_push R (a ∷ xs) (b ∷ ys) x y all more = (all.0, zip_push R xs ys x y all.1 more)

-- one item more, which is what it means
pub items_more : {A : Type 0} (R : Data → A → Type 0) (vs : List Value) (i : ℕ) (d : Value) (items now : List A) (a : A)
    → i < length vs → AllZip R (map view (take i vs)) items → R (view (get_or vs i d)) a → now ≡ items ++ a ∷ []
    → AllZip R (map view (take (i + 1) vs)) now
items_more R vs i d items now a within so_far is pushed =
    rw (pushed, map_more view vs i d within) (zip_push R (map view (take i vs)) items (view (get_or vs i d)) a so_far is)
