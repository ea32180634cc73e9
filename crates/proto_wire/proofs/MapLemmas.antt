-- Maps: the code's map from keys to payloads, and the map of the entries that were read.
use Rattle.std.proofs.Common.{◌≡◌, ℕ, zero, suc, ◌+◌, ◌<◌, true, false, cond, List, [], ◌∷◌, ◌++◌, take, get_or, length, T, Some, None, Bor, refl, sym, ap, subst, ◌∙◌}
use Rattle.std.proofs.lemmas.List.{append-nil, append_assoc, map-append, reverse-append, nil_from_length, take_more}
use Rattle.std.specs.Ordering.{is_eq, match_ordering}
use Rattle.std.specs.Cmp.{IsTotalOrder, int_cmp_total}
use Rattle.std.specs.Cmp.Lexicographic.{nat_list_cmp_total}
use Rattle.std.specs.BTreeMap.{insert_entry}
use Rattle.std.specs.Map.{lookup}
use Rattle.std.specs.FinMap.{IsAntisymmetric, entries, find, is_sorted, from_entries, entries-insert, empty, len-empty, len-entries, slice_cmp-IsAntisymmetric, nat_cmp-IsAntisymmetric, int_cmp-IsAntisymmetric}
use Rattle.std.specs.FinMap.Entries.{put, by_order}
use Rattle.smallvec.specs.SmallVec.{SmallVec}
use Rattle.std.specs.declared.cmp.Ordering.{Ordering}
use Rattle.std.specs.declared.cmp.Ordering.TheVariants.{Less, Equal, Greater}
use Rattle.proto_wire.specs.Merge.{FirstBreaks, parts_view}
use Rattle.proto_wire.specs.Maps.{KeyKind, text, int64, KeyOf, key_cmp, Entry, IsEntry, AreEntries, map_of, entries_view}
use Rattle.proto_wire.proofs.MapOrder.{put_last}
use Rattle.proto_wire.proofs.Unique.{first_disjoint}

-- ---- the order of keys

pub key_cmp_total : (kind : KeyKind) → IsTotalOrder (key_cmp kind)
key_cmp_total text = nat_list_cmp_total
key_cmp_total int64 = int_cmp_total

pub key_cmp_antisymmetric : (kind : KeyKind) → IsAntisymmetric (key_cmp kind)
key_cmp_antisymmetric text = slice_cmp-IsAntisymmetric nat_cmp-IsAntisymmetric
key_cmp_antisymmetric int64 = int_cmp-IsAntisymmetric

-- ---- the code's map

module _ {K : Type 0} (kind : KeyKind) (key_view : K → KeyOf kind) (cmp : K → K → Ordering)
    (in_order : (a b : K) → cmp a b ≡ key_cmp kind (key_view a) (key_view b)) where
  -- an entry goes to the same place
  pub entries_view_insert : (es : List (K × SmallVec (Bor (List ℕ)))) (k : K)
      (v : SmallVec (Bor (List ℕ)))
      → entries_view kind key_view (insert_entry cmp es k v)
      ≡ put (key_cmp kind) (key_view k) (parts_view v.items) (entries_view kind key_view es)
  entries_view_insert [] k v = refl
  entries_view_insert (e ∷ es) k v =
      let new : Entry kind = (key_view k, parts_view v.items) in
      let old : Entry kind = (key_view e.0, parts_view e.1.items) in
      let rest = entries_view kind key_view es in
      let later = put (key_cmp kind) (key_view k) (parts_view v.items) rest in
      rw (in_order k e.0)
      (elim (key_cmp kind (key_view k) (key_view e.0)) as
      (λ o. entries_view kind key_view (match_ordering o ((k, v) ∷ e ∷ es) ((e.0, v) ∷ es)
      (e ∷ insert_entry cmp es k v))
      ≡ by_order o (new ∷ old ∷ rest) ((key_view e.0, parts_view v.items) ∷ rest) (old ∷ later)) [
        | Less ↦ refl
        | Equal ↦ refl
        | Greater ↦ ap (λ xs. old ∷ xs) (entries_view_insert es k v)
      ])

  -- what the code's map has at a key
  pub entries_view_find : (es : List (K × SmallVec (Bor (List ℕ)))) (k : K)
      (v : SmallVec (Bor (List ℕ)))
      → lookup (λ x. is_eq (cmp k x)) es ≡ Some v
      → find (key_cmp kind) (key_view k) (entries_view kind key_view es) ≡ Some (parts_view v.items)
  entries_view_find [] k v = λ found. let clash : None ≡ Some v = found in cc
  entries_view_find (e ∷ es) k v =
      let rest = find (key_cmp kind) (key_view k) (entries_view kind key_view es) in
      rw (in_order k e.0)
      (elim (is_eq (key_cmp kind (key_view k) (key_view e.0))) as
      (λ b. cond b (Some e.1) (lookup (λ x. is_eq (cmp k x)) es) ≡ Some v
      → cond b (Some (parts_view e.1.items)) rest ≡ Some (parts_view v.items)) [
        | true ↦ λ found. let same : e.1 ≡ v = cc in ap (λ x. Some (parts_view x.items)) same
        | false ↦ entries_view_find es k v
      ])

-- an entry more at the end of a list
pub entries_view_push : {K : Type 0} (kind : KeyKind) (key_view : K → KeyOf kind)
    (es ds : List (K × SmallVec (Bor (List ℕ)))) (e : K × SmallVec (Bor (List ℕ))) → ds ≡ es ++ e ∷ []
    → entries_view kind key_view ds ≡ entries_view kind key_view es ++ (key_view e.0, parts_view e.1.items) ∷ []
entries_view_push kind key_view es ds e is =
    ap (entries_view kind key_view) is
    ∙ map-append (λ x. (key_view x.0, parts_view x.1.items)) es (e ∷ [])

-- ---- the entries that were read

module _ (kind : KeyKind) where
  -- no entry makes the empty map
  pub map_of_none : entries (map_of kind []) ≡ []
  map_of_none =
      nil_from_length _
      (sym (len-entries (empty {X = List (List ℕ)} {R = key_cmp kind}))
      ∙ len-empty (key_cmp kind) (List (List ℕ)))

  -- one entry more is put into the map
  pub map_of_push : (es : List (Entry kind)) (e : Entry kind)
      → entries (map_of kind (es ++ e ∷ [])) ≡ put (key_cmp kind) e.0 e.1 (entries (map_of kind es))
  map_of_push es e =
      ap (λ xs. entries (from_entries {R = key_cmp kind} xs)) (reverse-append es (e ∷ []))
      ∙ entries-insert (key_cmp_total kind) (map_of kind es) e.0 e.1

  -- entries in ascending order are those of their map
  sorted_after : (done es : List (Entry kind)) → T (is_sorted (key_cmp kind) (done ++ es))
      → entries (map_of kind done) ≡ done → entries (map_of kind (done ++ es)) ≡ done ++ es
  sorted_after done [] sorted made = rw (append-nil done) made
  sorted_after done (e ∷ es) sorted made =
      let more = append_assoc done (e ∷ []) es in
      let put_in : entries (map_of kind (done ++ e ∷ [])) ≡ done ++ e ∷ [] =
      map_of_push done e ∙ ap (put (key_cmp kind) e.0 e.1) made
      ∙ put_last (key_cmp kind) (key_cmp_total kind) done e es sorted in
      let P : List (Entry kind) → Type 0 = λ xs. T (is_sorted (key_cmp kind) xs) in
      let Q : List (Entry kind) → Type 0 = λ xs. entries (map_of kind xs) ≡ xs in
      subst Q more (sorted_after (done ++ e ∷ []) es (subst P (sym more) sorted) put_in)

  pub map_of_sorted : (es : List (Entry kind)) → T (is_sorted (key_cmp kind) es)
      → entries (map_of kind es) ≡ es
  map_of_sorted es sorted = sorted_after [] es sorted map_of_none

  -- one entry more is read
  pub are_entries_push : (parts : List (Bor (List ℕ))) (es : List (Entry kind)) (part : Bor (List ℕ))
      (e : Entry kind)
      → AreEntries kind (parts_view parts) es → IsEntry kind part.now e
      → AreEntries kind (parts_view (parts ++ part ∷ [])) (es ++ e ∷ [])
  are_entries_push [] [] part e are is = (is, tt)
  are_entries_push [] (x ∷ es) part e are is = absurd are
  are_entries_push (p ∷ parts) [] part e are is = absurd are
  are_entries_push (p ∷ parts) (x ∷ es) part e are is =
      (are.0, are_entries_push parts es part e are.1 is)

  -- one payload more is one entry more
  pub are_entries_more : (parts : List (Bor (List ℕ))) (i : ℕ) (d : Bor (List ℕ))
      (es : List (Entry kind)) (e : Entry kind)
      → i < length parts → AreEntries kind (parts_view (take i parts)) es
      → IsEntry kind (get_or parts i d).now e
      → AreEntries kind (parts_view (take (i + 1) parts)) (es ++ e ∷ [])
  are_entries_more parts i d es e within are is =
      rw (take_more parts i d within) (are_entries_push (take i parts) es (get_or parts i d) e are is)

  -- entries do not break at the first field
  pub entries_first_disjoint : (parts : List (List ℕ)) (es : List (Entry kind))
      → AreEntries kind parts es → FirstBreaks parts → ⊥
  entries_first_disjoint [] es are breaks = breaks
  entries_first_disjoint (part ∷ parts) [] are breaks = are
  entries_first_disjoint (part ∷ parts) (e ∷ es) are breaks =
      first_disjoint (part ∷ []) are.0.0 are.0.1.0 breaks

  -- where the payloads before the next one are entries and the first breaks at once, the next is
  -- the first
  pub entry_breaks_at : (i : ℕ) (parts : List (Bor (List ℕ))) (d : Bor (List ℕ))
      (es : List (Entry kind))
      → i < length parts
      → AreEntries kind (parts_view (take i parts)) es → FirstBreaks (parts_view parts)
      → FirstBreaks ((get_or parts i d).now ∷ [])
  entry_breaks_at i [] d es within are breaks = absurd breaks
  entry_breaks_at zero (p ∷ parts) d es within are breaks = breaks
  entry_breaks_at (suc i) (p ∷ parts) d es within are breaks =
      absurd (entries_first_disjoint (parts_view (p ∷ take i parts)) es are breaks)

  -- an entry does not break at once
  pub entry_breaks_disjoint : (part : List ℕ) (e : Entry kind) → IsEntry kind part e
      → FirstBreaks (part ∷ []) → ⊥
  entry_breaks_disjoint part e is breaks = first_disjoint (part ∷ []) is.0 is.1.0 breaks
