-- The last id in fields, and the fields of payloads.
use Rattle.std.proofs.Common.{◌≡◌, ◌==◌, ◌⊎◌, ◌<◌, ◌+◌, ℕ, cond, List, [], ◌∷◌, ◌++◌, Bor, Option, Some, None, length, take, get_or, refl, sym, ap, ◌∙◌}
use Rattle.std.specs.Prelude.{unwrap_or}
use Rattle.std.proofs.lemmas.List.{append_assoc, append-nil, map_more}
use Rattle.std.proofs.lemmas.List.Elements.{filter_map-append}
use Rattle.proto_wire.specs.Fields.{Wire}
use Rattle.proto_wire.specs.Merge.{parts_view}
use Rattle.proto_wire.specs.Values.{last_of, varint_in, varints}
use Rattle.cel_tree.specs.Nodes.{Parts}
use Rattle.cel_read.specs.Places.{AreWhole, AreWholeOf}

-- ---- the last of two lists

some_last : (y : ℕ) (ys : List ℕ) (a b : ℕ) → unwrap_or (last_of (y ∷ ys)) a ≡ unwrap_or (last_of (y ∷ ys)) b
some_last y [] a b = refl
some_last y (z ∷ zs) a b = some_last z zs a b

last_of_both : (xs ys : List ℕ) (b : ℕ)
    → unwrap_or (last_of (xs ++ ys)) b ≡ unwrap_or (last_of ys) (unwrap_or (last_of xs) b)
last_of_both [] ys b = refl
last_of_both (x ∷ []) [] b = refl
last_of_both (x ∷ []) (y ∷ ys) b = some_last y ys b x
last_of_both (x ∷ z ∷ xs) ys b = last_of_both (z ∷ xs) ys b

pub last_more : (k : ℕ) (fs gs : List Wire) (b : ℕ)
    → unwrap_or (last_of (varints k (fs ++ gs))) b
    ≡ unwrap_or (last_of (varints k gs)) (unwrap_or (last_of (varints k fs)) b)
last_more k fs gs b =
    ap (λ xs. unwrap_or (last_of xs) b)
    (filter_map-append (λ (f : Wire). cond (f.number == k) (varint_in f.payload) None) fs gs)
    ∙ last_of_both (varints k fs) (varints k gs) b

-- ---- the fields of one payload more

whole_push : (parts : Parts) (part : List ℕ) (fs gs : List Wire) → AreWholeOf parts fs → AreWhole part gs
    → AreWholeOf (parts ++ part ∷ []) (fs ++ gs)
whole_push [] part fs gs none own = rw none (gs, [], own, refl, sym (append-nil gs))
whole_push (p ∷ parts) part fs gs (own, others, here, there, is) more =
    (own, others ++ gs, here, whole_push parts part others gs there more, rw is (append_assoc own others gs))

pub whole_at : (i : ℕ) (parts : List (Bor (List ℕ))) (d : Bor (List ℕ)) (fs gs : List Wire) → i < length parts
    → AreWholeOf (parts_view (take i parts)) fs → AreWhole (get_or parts i d).now gs
    → AreWholeOf (parts_view (take (i + 1) parts)) (fs ++ gs)
whole_at i parts d fs gs within so_far own =
    rw (map_more (λ (p : Bor (List ℕ)). p.now) parts i d within)
    (whole_push (parts_view (take i parts)) (get_or parts i d).now fs gs so_far own)
