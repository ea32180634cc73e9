-- Headers as a finite map, and as its entries in order.
use Rattle.std.proofs.Common.{◌≡◌, ℕ, ◌↔◌, IsTrue, true, false, All, List, [], ◌∷◌, Some, None, refl, sym, ◌∙◌, cond, map, suc, arith}
use Rattle.std.specs.FinMap.{entries, entries-from_sorted, entries_sorted, find, from_sorted, get, get-entries, is_sorted, same_entries_map}
use Rattle.std.specs.Ordering.{eq_by_cmp}
use Rattle.std.proofs.lemmas.List.{length-map}
use Rattle.std.proofs.lemmas.List.Elements.{All-map}
use Rattle.std.proofs.Math.ListN.{get_or-map}
use Rattle.attributes.specs.Headers.{Entry, HeaderMap, name_cmp}
use Rattle.attributes.proofs.TextOrder.{same_from_test, ties_by_test, true_from_t}

-- the entries of a map are in order
pub is_sorted_entries : (m : HeaderMap) → IsTrue (is_sorted name_cmp (entries m))
is_sorted_entries m = true_from_t _ (entries_sorted m)

-- the map of its entries is itself
pub from_sorted_entries : (m : HeaderMap) → from_sorted (entries m) ≡ m
from_sorted_entries m =
    same_entries_map (from_sorted (entries m)) m
    (entries-from_sorted name_cmp (entries m) (entries_sorted m))

-- what holds of each entry holds of what each is a view of
pub all_views : {X : Type 0} (view : X → Entry) (P : Entry → Type 0) (xs : List X)
    → All P (map view xs) ↔ All (λ x. P (view x)) xs
all_views view P xs = (
  λ h k d below. rw (get_or-map view xs k d) at (h k (view d) (rw (length-map xs view) below)),
  All-map P view xs,
)

find_all : (P : Entry → Type 0) (es : List Entry) → All P es → (name value : List ℕ)
    → find name_cmp name es ≡ Some value → P (name, value)
find_all P [] all name value found = let clash : None ≡ Some value = found in absurd cc
find_all P (e ∷ es) all name value found =
    elim (eq_by_cmp name_cmp name e.0) as (λ b. eq_by_cmp name_cmp name e.0 ≡ b
    → cond b (Some e.1) (find name_cmp name es) ≡ Some value → P (name, value)) [
      | true ↦ λ t k.
          let named : e.0 ≡ name = same_from_test e.0 name (sym (ties_by_test name e.0) ∙ t) in
          let valued : e.1 ≡ value = cc in
          rw (← named, ← valued) (all 0 e (omega arith))
      | false ↦ λ t k. find_all P es (λ i d below. all (suc i) d (omega arith)) name value k
    ] refl found

-- what holds of each entry of a map holds of what it has at a name
pub all_get : (P : Entry → Type 0) (m : HeaderMap) → All P (entries m) → (name value : List ℕ)
    → get m name ≡ Some value → P (name, value)
all_get P m all name value found =
    find_all P (entries m) all name value (sym (get-entries m name) ∙ found)
