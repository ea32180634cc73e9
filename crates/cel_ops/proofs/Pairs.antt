-- The pairs that comprehensions of two variables go over, by their number.
use Rattle.std.proofs.Common.{◌≡◌, ◌+◌, ◌<◌, ◌≤◌, ℕ, zero, suc, pos, List, [], ◌∷◌, Some, None, length, get_or, slice_get, refl, ap, ◌∙◌, arith}
use Rattle.std.specs.declared.sync.ArcStr.{ArcStr}
use Rattle.std.specs.declared.alloc.Global.{Global}
use Rattle.cel_value.specs.Values.{CelValues, no_items, item, CelEntries, no_entries, entry, text, value, value_of_key}
use Rattle.cel_value.specs.Texts.{text_view}
use Rattle.cel_value.specs.Items.{key_items}
use Rattle.cel_value.specs.Masses.{item_count}
use Rattle.cel_value.specs.View.{entries_view, key_view, pairs_view, value_view, values_view}
use Rattle.cel_value.specs.declared.value.Key.{Key}
use Rattle.cel_value.specs.declared.value.Value.{Value}
use Rattle.cel_ops.specs.Arithmetic.{int_answer}
use Rattle.cel_ops.specs.Collections.{keyed, numbered}

-- ---- items with their indices

pub item_pair_at : (n : ℕ) (vs : List Value) (i : ℕ) (d : Value) → i < length vs
    → slice_get (numbered n (values_view vs)) i ≡ Some (int_answer (pos (n + i)), value_view (get_or vs i d))
item_pair_at n [] i d below = absurd (omega arith)
item_pair_at n (v ∷ vs) zero d below =
    let e : n ≡ n + 0 = omega arith in ap (λ m. Some (int_answer (pos m), value_view v)) e
item_pair_at n (v ∷ vs) (suc i) d below =
    let e : suc n + i ≡ n + suc i = omega arith in
    item_pair_at (suc n) vs i d (omega arith)
    ∙ ap (λ m. Some (int_answer (pos m), value_view (get_or vs i d))) e

-- past the last item there is no pair
pub numbered_past : (n : ℕ) (vs : CelValues) (i : ℕ) → item_count vs ≤ i → slice_get (numbered n vs) i ≡ None
numbered_past n no_items i past = refl
numbered_past n (item v vs) zero past = absurd (omega arith)
numbered_past n (item v vs) (suc i) past = numbered_past (suc n) vs i (omega arith)

-- ---- values with their keys

pub entry_pair_at : (es : List (Key × Value)) (i : ℕ) (d : Key × Value) → i < length es
    → slice_get (keyed (entries_view es)) i
    ≡ Some (value (value_of_key (key_view (get_or es i d).0)), value_view (get_or es i d).1)
entry_pair_at [] i d below = absurd (omega arith)
entry_pair_at (e ∷ es) zero d below = refl
entry_pair_at (e ∷ es) (suc i) d below = entry_pair_at es i d (omega arith)

pub text_pair_at : (ps : List (ArcStr Global × ArcStr Global)) (i : ℕ) (d : ArcStr Global × ArcStr Global)
    → i < length ps → slice_get (keyed (pairs_view ps)) i
    ≡ Some (value (text (text_view (get_or ps i d).0)), text (text_view (get_or ps i d).1))
text_pair_at [] i d below = absurd (omega arith)
text_pair_at (p ∷ ps) zero d below = refl
text_pair_at (p ∷ ps) (suc i) d below = text_pair_at ps i d (omega arith)

-- past the last key there is no pair
pub keyed_past : (es : CelEntries) (i : ℕ) → item_count (key_items es) ≤ i → slice_get (keyed es) i ≡ None
keyed_past no_entries i past = refl
keyed_past (entry k v es) zero past = absurd (omega arith)
keyed_past (entry k v es) (suc i) past = keyed_past es i (omega arith)
