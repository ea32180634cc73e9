-- The keys of a map, one after the other, and whether they rise.
use Rattle.std.proofs.Common.{◌≡◌, ◌+◌, ◌<◌, ◌≤◌, ℕ, zero, suc, true, List, [], ◌∷◌, Some, None, drop, length, get_or, map, refl, sym, ◌∙◌, arith}
use Rattle.std.specs.Cmp.Lexicographic.{slice_cmp}
use Rattle.std.specs.Ordering.{nat_cmp}
use Rattle.std.specs.Arc.{arc_str_bytes}
use Rattle.std.specs.declared.cmp.Ordering.TheVariants.{Less}
use Rattle.std.proofs.lemmas.List.{length-drop}
use Rattle.std.proofs.lemmas.Str.{IsUtf8-string_bytes}
use Rattle.std.specs.declared.sync.ArcStr.{ArcStr}
use Rattle.std.specs.declared.alloc.Global.{Global}
use Rattle.cel_value.specs.Values.{text, value_of_key}
use Rattle.cel_value.specs.Texts.{text_view}
use Rattle.cel_value.specs.View.{entries_view, key_view, pairs_view}
use Rattle.cel_value.specs.Keys.{AreRising, IsAscending, is_ascending}
use Rattle.cel_value.specs.Items.{item_at, key_items}
use Rattle.cel_value.specs.declared.value.Key.{Key}
use Rattle.cel_value.specs.declared.value.Value.{Value}
use Rattle.cel_value.proofs.Places.{is_ascending_decides}
use Rattle.cel_value.proofs.TextOrder.{chars_cmp}

pub entry_key_at : (es : List (Key × Value)) (i : ℕ) (d : Key × Value) → i < length es
    → item_at (key_items (entries_view es)) i ≡ Some (value_of_key (key_view (get_or es i d).0))
entry_key_at [] i d below = absurd (omega arith)
entry_key_at (e ∷ es) zero d below = refl
entry_key_at (e ∷ es) (suc i) d below = entry_key_at es i d (omega arith)

pub entry_key_past : (es : List (Key × Value)) (i : ℕ) → length es ≤ i
    → item_at (key_items (entries_view es)) i ≡ None
entry_key_past [] i past = refl
entry_key_past (e ∷ es) zero past = absurd (omega arith)
entry_key_past (e ∷ es) (suc i) past = entry_key_past es i (omega arith)

pub pair_key_at : (ps : List (ArcStr Global × ArcStr Global)) (i : ℕ)
    (d : ArcStr Global × ArcStr Global)
    → i < length ps → item_at (key_items (pairs_view ps)) i
    ≡ Some (text (text_view (get_or ps i d).0))
pair_key_at [] i d below = absurd (omega arith)
pair_key_at (p ∷ ps) zero d below = refl
pair_key_at (p ∷ ps) (suc i) d below = pair_key_at ps i d (omega arith)

pub pair_key_past : (ps : List (ArcStr Global × ArcStr Global)) (i : ℕ) → length ps ≤ i
    → item_at (key_items (pairs_view ps)) i ≡ None
pair_key_past [] i past = refl
pair_key_past (p ∷ ps) zero past = absurd (omega arith)
pair_key_past (p ∷ ps) (suc i) past = pair_key_past ps i (omega arith)

-- one entry at most rises

pub entry_rises : (es : List (Key × Value)) (i : ℕ) → length es ≤ i + 1
    → true ≡ is_ascending (entries_view (drop i es))
entry_rises es i over = at (drop i es) (omega (arith, length-drop i es))
  where
    at : (xs : List (Key × Value)) → length xs ≤ 1 → true ≡ is_ascending (entries_view xs)
    at [] h = refl
    at (x ∷ []) h = refl
    at (x ∷ y ∷ xs) h = absurd (omega arith)

pub pair_rises : (ps : List (ArcStr Global × ArcStr Global)) (i : ℕ) → length ps ≤ i + 1
    → true ≡ is_ascending (pairs_view (drop i ps))
pair_rises ps i over = at (drop i ps) (omega (arith, length-drop i ps))
  where
    at : (xs : List (ArcStr Global × ArcStr Global)) → length xs ≤ 1 → true
        ≡ is_ascending (pairs_view xs)
    at [] h = refl
    at (x ∷ []) h = refl
    at (x ∷ y ∷ xs) h = absurd (omega arith)

-- pairs whose names rise by their bytes are a map

names_rise : (ps : List (ArcStr Global × ArcStr Global)) → AreRising (map (λ p. arc_str_bytes p.0) ps)
    → is_ascending (pairs_view ps) ≡ true
names_rise [] h = refl
names_rise (p ∷ []) h = refl
names_rise (p ∷ q ∷ ps) h =
    let by_points : slice_cmp nat_cmp (text_view p.0) (text_view q.0) ≡ Less =
    sym (chars_cmp (arc_str_bytes p.0) (arc_str_bytes q.0) (IsUtf8-string_bytes p.0.text.value)
    (IsUtf8-string_bytes q.0.text.value)) ∙ h.0 in
    rw by_points (names_rise (q ∷ ps) h.1)

pub pairs_ascend : (ps : List (ArcStr Global × ArcStr Global))
    → AreRising (map (λ p. arc_str_bytes p.0) ps)
    → IsAscending (pairs_view ps)
pairs_ascend ps h = (is_ascending_decides (pairs_view ps)).0 (names_rise ps h)
