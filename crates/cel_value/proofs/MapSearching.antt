-- A binary search in the entries of a map, by the views of code's items.
use Rattle.std.proofs.Common.{◌≡◌, ◌<◌, ◌≤◌, ℕ, List, [], ◌∷◌, ◌++◌, Some, None, Ok, Err, length, take, drop, get_or, refl, sym, ap, ◌∙◌}
use Rattle.std.specs.declared.cmp.Ordering.{Ordering}
use Rattle.std.specs.declared.sync.ArcStr.{ArcStr}
use Rattle.std.specs.declared.alloc.Global.{Global}
use Rattle.std.specs.Fn.{Called, ComputesKey}
use Rattle.std.specs.List.Sorted.{IsBinarySearchResult}
use denote.Param.Members.{Mut}
use denote.Ref.{Bor}
use Rattle.cel_value.specs.Values.{CelKey, CelValue, text, text_key, bool_key, int_key, uint_key, entry}
use Rattle.cel_value.specs.Texts.{text_view}
use Rattle.cel_value.specs.View.{entries_view, key_view, pairs_view, value_view}
use Rattle.cel_value.specs.Keys.{get, key_cmp, IsAscending, put}
use Rattle.cel_value.specs.declared.value.Key.{Key}
use Rattle.cel_value.specs.declared.value.Value.{Value}
use Rattle.cel_value.proofs.Searching.{made_of, get_found, get_absent, put_absent}

abbrev entry_key : Key × Value → CelKey
entry_key e = key_view e.0

abbrev entry_value : Key × Value → CelValue
entry_value e = value_view e.1

abbrev pair_key : ArcStr Global × ArcStr Global → CelKey
pair_key p = text_key (text_view p.0)

abbrev pair_value : ArcStr Global × ArcStr Global → CelValue
pair_value p = text (text_view p.1)

entries_made : (es : List (Key × Value)) → entries_view es ≡ made_of entry_key entry_value es
entries_made [] = refl
entries_made (e ∷ es) = ap (entry (key_view e.0) (value_view e.1)) (entries_made es)

pairs_made : (ps : List (ArcStr Global × ArcStr Global)) → pairs_view ps
    ≡ made_of pair_key pair_value ps
pairs_made [] = refl
pairs_made (p ∷ ps) = ap (entry (pair_key p) (pair_value p)) (pairs_made ps)

module _ (q : CelKey) {F : Type 0} {g : Mut F (Bor (Key × Value) × Unit {0}) Ordering} {f : F}
    (answers : (a : Bor (Key × Value) × Unit {0}) (r : Ordering) (f' : F) → Called g f a r f'
    → (r ≡ key_cmp (key_view a.0.now.0) q) × (f' ≡ f)) where
  pub entry_found : (xs : List (Key × Value)) (i : ℕ) (d : Key × Value)
      → IsAscending (entries_view xs) → i < length xs
      → ((ord : Key × Value → Ordering) → ComputesKey g ord f → IsBinarySearchResult ord xs (Ok i))
      → get (entries_view xs) q ≡ Some (value_view (get_or xs i d).1)
  entry_found xs i d up below found =
      rw (entries_made xs)
      (get_found entry_key entry_value q answers xs i d (rw (entries_made xs) at up) below found)

  pub entry_absent : (xs : List (Key × Value)) (i : ℕ) → IsAscending (entries_view xs)
      → ((ord : Key × Value → Ordering) → ComputesKey g ord f → IsBinarySearchResult ord xs (Err i))
      → get (entries_view xs) q ≡ None
  entry_absent xs i up found =
      rw (entries_made xs)
      (get_absent entry_key entry_value q answers xs i (rw (entries_made xs) at up) found)

  pub entry_placed : (x : Key × Value) (xs : List (Key × Value)) (i : ℕ) → key_view x.0 ≡ q
      → i ≤ length xs → IsAscending (entries_view xs)
      → ((ord : Key × Value → Ordering) → ComputesKey g ord f → IsBinarySearchResult ord xs (Err i))
      → entries_view (take i xs ++ x ∷ drop i xs)
      ≡ put (key_view x.0) (value_view x.1) (entries_view xs)
  entry_placed x xs i same within up found =
      entries_made (take i xs ++ x ∷ drop i xs)
      ∙ put_absent entry_key entry_value q answers x xs i same within (rw
      (entries_made xs) at up) found
      ∙ ap (put (key_view x.0) (value_view x.1)) (sym (entries_made xs))

module _ (q : CelKey) {F : Type 0} {g : Mut F (Bor
    (ArcStr Global × ArcStr Global) × Unit {0}) Ordering} {f : F}
    (answers : (a : Bor (ArcStr Global × ArcStr Global) × Unit {0}) (r : Ordering) (f' : F)
    → Called g f a r f'
    → (r ≡ key_cmp (text_key (text_view a.0.now.0)) q) × (f' ≡ f)) where
  pub pair_found : (xs : List (ArcStr Global × ArcStr Global)) (i : ℕ)
      (d : ArcStr Global × ArcStr Global)
      → IsAscending (pairs_view xs) → i < length xs
      → ((ord : ArcStr Global × ArcStr Global → Ordering) → ComputesKey g ord f
      → IsBinarySearchResult ord xs (Ok i))
      → get (pairs_view xs) q ≡ Some (text (text_view (get_or xs i d).1))
  pair_found xs i d up below found =
      rw (pairs_made xs)
      (get_found pair_key pair_value q answers xs i d (rw (pairs_made xs) at up) below found)

  pub pair_absent : (xs : List (ArcStr Global × ArcStr Global)) (i : ℕ) → IsAscending (pairs_view xs)
      → ((ord : ArcStr Global × ArcStr Global → Ordering) → ComputesKey g ord f
      → IsBinarySearchResult ord xs (Err i))
      → get (pairs_view xs) q ≡ None
  pair_absent xs i up found =
      rw (pairs_made xs)
      (get_absent pair_key pair_value q answers xs i (rw (pairs_made xs) at up) found)

-- no key of texts is another kind's

pub pairs_no_bool : (ps : List (ArcStr Global × ArcStr Global)) (b : _)
    → get (pairs_view ps) (bool_key b) ≡ None
pairs_no_bool [] b = refl
pairs_no_bool (p ∷ ps) b = pairs_no_bool ps b

pub pairs_no_int : (ps : List (ArcStr Global × ArcStr Global)) (i : _)
    → get (pairs_view ps) (int_key i) ≡ None
pairs_no_int [] i = refl
pairs_no_int (p ∷ ps) i = pairs_no_int ps i

pub pairs_no_uint : (ps : List (ArcStr Global × ArcStr Global)) (n : _)
    → get (pairs_view ps) (uint_key n) ≡ None
pairs_no_uint [] n = refl
pairs_no_uint (p ∷ ps) n = pairs_no_uint ps n
