-- Lines sorted by name, joined one after the other.
use Rattle.std.proofs.Common.{◌≡◌, ℕ, T, false, List, [], ◌∷◌, ◌++◌, length, sym, ◌∙◌, arith}
use Rattle.std.proofs.lemmas.List.{nil_from_length}
use Rattle.std.specs.FinMap.{entries, entries_sorted, find, is_sorted, len, len-entries}
use Rattle.std.specs.FinMap.Entries.{put}
use Rattle.std.specs.Str.{bytes_eq}
use Rattle.attributes.specs.Headers.{Entry, headers_of, name_cmp}
use Rattle.attributes.specs.private.Headers.{AreSorted}
use Rattle.attributes.proofs.Joining.{added, entries_more, len_headers_of}
use Rattle.attributes.proofs.Places.{put_behind, put_last}
use Rattle.attributes.proofs.TextOrder.{IsBefore, before_from_not}

-- no line has no headers
pub headers_nil : entries (headers_of []) ≡ []
headers_nil =
    let none : length (entries (headers_of [])) ≡ 0 =
    sym (len-entries (headers_of [])) ∙ none_left in
    nil_from_length (entries (headers_of [])) none
  where
    none_left : len (headers_of []) ≡ 0
    none_left = let few = len_headers_of [] in omega (arith, few)

-- one line is its own header
pub headers_one : (e : Entry) → e ∷ [] ≡ entries (headers_of (e ∷ []))
headers_one e = sym (rw headers_nil at (entries_more [] e))

-- the headers of the lines so far, the last of them apart
module _ (done held : List Entry) (name w : List ℕ)
    (so_far : held ++ (name, w) ∷ [] ≡ entries (headers_of done)) where
  sorted : T (is_sorted name_cmp (held ++ (name, w) ∷ []))
  sorted = rw so_far (entries_sorted (headers_of done))

  more : (e : Entry) → entries (headers_of (done ++ e ∷ []))
      ≡ put name_cmp e.0 (added (find name_cmp e.0 (held ++ (name, w) ∷ [])) e.1)
      (held ++ (name, w) ∷ [])
  more e = rw so_far (entries_more done e)

  -- a further value of the last name
  pub headers_same : (v : List ℕ)
      → held ++ (name, w ++ 44 ∷ v) ∷ [] ≡ entries (headers_of (done ++ (name, v) ∷ []))
  headers_same v =
      let last = put_last name (w ++ 44 ∷ v) w held sorted in
      sym (more (name, v) ∙ rw last.1 last.0)

  -- a next name
  pub headers_next : (e : Entry) → IsBefore name e.0
      → (held ++ (name, w) ∷ []) ++ e ∷ [] ≡ entries (headers_of (done ++ e ∷ []))
  headers_next e after =
      let last = put_behind e.0 e.1 held (name, w) sorted after in
      sym (more e ∙ rw last.1 last.0)

-- for the order of the first and the rest, the first name alone counts
pub are_sorted_name : (e d : Entry) (es : List Entry) → e.0 ≡ d.0 → AreSorted (e ∷ es)
    → AreSorted (d ∷ es)
are_sorted_name e d [] same h = tt
are_sorted_name e d (f ∷ es) same h = (rw same at h.0, h.1)

-- the second of sorted entries is one with the first by name, or comes after it
pub are_sorted_next : (e d : Entry) (es : List Entry) → AreSorted (e ∷ d ∷ es)
    → bytes_eq d.0 e.0 ≡ false → IsBefore e.0 d.0
are_sorted_next e d es h differ = before_from_not e.0 d.0 h.0 differ
