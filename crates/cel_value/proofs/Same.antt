-- Equality of values: the test decides it.
use Rattle.std.proofs.Common.{◌≡◌, ℕ, ◌&&◌, Bool, true, false, List, refl, sym, ap, ◌∙◌, arith, nat_eq, IsUtf8}
use Rattle.std.specs.Bool.{Decides}
use Rattle.std.specs.Cmp.Lexicographic.{pointwise, bytes_decides}
use Rattle.std.specs.Str.{chars, encode_utf8_all}
use Rattle.std.proofs.lemmas.Str.{encodes-chars}
use Rattle.std.proofs.lemmas.Bool.Decides.{same_from_decides}
use Rattle.cel_value.specs.Values.{CelValues, no_items, item, CelEntries, no_entries, entry}
use Rattle.cel_value.specs.Masses.{item_count, entry_count}
use Rattle.cel_value.specs.Equality.{key_eq, value_eq, values_eq, entries_eq}
use Rattle.cel_value.specs.private.EqualityLaws.{entries_eq_decides}

-- texts are the same where their bytes are
pub chars_same : (bs ds : List ℕ) → IsUtf8 bs → IsUtf8 ds → pointwise nat_eq bs ds
    ≡ pointwise nat_eq (chars bs) (chars ds)
chars_same bs ds u w =
    let by_bytes : Decides (pointwise nat_eq bs ds) (bs ≡ ds) = bytes_decides bs ds in
    let by_chars : Decides (pointwise nat_eq (chars bs) (chars ds)) (bs ≡ ds) = (
      λ e. sym (encodes-chars bs u) ∙ ap encode_utf8_all ((bytes_decides (chars bs)
          (chars ds)).0 e) ∙ encodes-chars ds w,
      λ e. (bytes_decides (chars bs) (chars ds)).1 (ap chars e),
    ) in
    same_from_decides _ _ by_bytes by_chars

and_false : (b : Bool) {x : Bool} → false ≡ x → false ≡ (b && x)
and_false true e = e
and_false false e = refl

-- items that are not as many differ
pub longer_differs : (vs ws : CelValues) → (item_count vs ≡ item_count ws → ⊥) → false
    ≡ values_eq vs ws
longer_differs no_items no_items h = absurd (h refl)
longer_differs no_items (item w ws) h = refl
longer_differs (item v vs) no_items h = refl
longer_differs (item v vs) (item w ws) h = and_false (value_eq v w) (longer_differs vs ws (λ e. h
    (omega arith)))

-- entries that are not as many differ
pub longer_entries_differ : (vs ws : CelEntries) → (entry_count vs ≡ entry_count ws → ⊥) → false
    ≡ entries_eq vs ws
longer_entries_differ no_entries no_entries h = absurd (h refl)
longer_entries_differ no_entries (entry j w ws) h = refl
longer_entries_differ (entry j v vs) no_entries h = refl
longer_entries_differ (entry j v vs) (entry k w ws) h = and_false (key_eq j k && value_eq v w)
    (longer_entries_differ vs ws (λ e. h (omega arith)))

-- the test goes either way round
pub entries_eq_symm : (vs ws : CelEntries) → entries_eq vs ws ≡ entries_eq ws vs
entries_eq_symm vs ws = same_from_decides _ _ (entries_eq_decides vs ws)
    (let d = entries_eq_decides ws vs in (λ e. sym (d.0 e), λ e. d.1 (sym e)))
