-- The headers of entries: what they have at a name, and what one entry more changes.
use Rattle.std.proofs.Common.{◌≡◌, ◌≢◌, ℕ, ◌+◌, ◌≤◌, true, false, List, [], ◌∷◌, ◌++◌, Option, Some, None, cond, filter, is_some, map, length, refl, sym, ◌∙◌, ap, append_assoc, append-nil, arith}
use Rattle.std.specs.Str.{bytes_eq}
use Rattle.std.specs.FinMap.{entries, entries-insert, find, from_entries, get, get-entries, get-from_entries, get-insert, insert, len, len-empty, len-insert, same_map}
use Rattle.std.specs.FinMap.Entries.{put}
use Rattle.std.proofs.lemmas.Cmp.{nat_list_cmp_total}
use Rattle.std.proofs.lemmas.List.{length-map, map-append}
use Rattle.std.proofs.lemmas.List.Elements.{filter-append}
use Rattle.attributes.specs.Headers.{Entry, HeaderMap, headers_of, name_cmp, values_of, with_commas}
use Rattle.attributes.specs.private.Headers.{AreJoined, joined}
use Rattle.attributes.proofs.TextOrder.{names_differ, same_from_test, test_same, ties_by_test}

-- the values of one more entry
values_of_more : (name : List ℕ) (es : List Entry) (e : Entry)
    → values_of name (es ++ e ∷ []) ≡ values_of name es ++ values_of name (e ∷ [])
values_of_more name es e = simp (filter-append, map-append)

-- one more entry of this name
values_of_named : (name v : List ℕ) (es : List Entry)
    → values_of name (es ++ (name, v) ∷ []) ≡ values_of name es ++ v ∷ []
values_of_named name v es =
    let one : values_of name ((name, v) ∷ []) ≡ v ∷ [] = rw (test_same name) refl in
    values_of_more name es (name, v) ∙ ap (λ vs. values_of name es ++ vs) one

-- one more entry of another name
values_of_other : (name : List ℕ) (es : List Entry) (e : Entry) → bytes_eq e.0 name ≡ false
    → values_of name (es ++ e ∷ []) ≡ values_of name es
values_of_other name es e differ =
    let none : values_of name (e ∷ []) ≡ [] = rw differ refl in
    values_of_more name es e ∙ ap (λ vs. values_of name es ++ vs) none
    ∙ append-nil (values_of name es)

-- one more value, after a comma
with_commas_more : (u : List ℕ) (us : List (List ℕ)) (v : List ℕ)
    → with_commas (u ∷ (us ++ v ∷ [])) ≡ with_commas (u ∷ us) ++ 44 ∷ v
with_commas_more u [] v = refl
with_commas_more u (w ∷ us) v =
    rw (with_commas_more w us v) (sym (append_assoc u (44 ∷ with_commas (w ∷ us)) (44 ∷ v)))

-- a value behind what was there
abbrev pub added : Option (List ℕ) → List ℕ → List ℕ
added None v = v
added (Some w) v = w ++ 44 ∷ v

pub joined_added : (vs : List (List ℕ)) (v : List ℕ)
    → joined (vs ++ v ∷ []) ≡ Some (added (joined vs) v)
joined_added [] v = refl
joined_added (u ∷ us) v = ap Some (with_commas_more u us v)

-- a value where there is some entry
abbrev present : List (List ℕ) → List ℕ → Option (List ℕ)
present [] v = None
present (u ∷ us) v = Some v

find_listed : (g : List ℕ → List ℕ) (name : List ℕ) (es : List Entry)
    → find name_cmp name (map (λ e. (e.0, g e.0)) es) ≡ present (values_of name es) (g name)
find_listed g name [] = refl
find_listed g name (e ∷ es) =
    rw (ties_by_test name e.0) (elim (bytes_eq e.0 name) as (λ b. bytes_eq e.0 name ≡ b
    → cond b (Some (g e.0)) (find name_cmp name (map (λ d. (d.0, g d.0)) es))
    ≡ present (map (λ (d : Entry). d.1) (cond b (e ∷ rest) rest)) (g name)) [
      | true ↦ λ t. ap (λ k. Some (g k)) (same_from_test e.0 name t)
      | false ↦ λ t. find_listed g name es
    ] refl)
  where
    rest : List Entry
    rest = filter (λ d. bytes_eq d.0 name) es

present_joined : (vs : List (List ℕ)) → present vs (with_commas vs) ≡ joined vs
present_joined [] = refl
present_joined (v ∷ vs) = refl

-- the headers of entries have all values of each name
pub are_joined_headers_of : (es : List Entry) → AreJoined es (headers_of es)
unfolding headers_of
are_joined_headers_of es name =
    get-from_entries nat_list_cmp_total (map (λ e. (e.0, with_commas (values_of e.0 es))) es) name
    ∙ find_listed (λ k. with_commas (values_of k es)) name es ∙ present_joined (values_of name es)

-- headers with the same value at each name are one map
pub same_headers : (a b : HeaderMap) → ((name : List ℕ) → get a name ≡ get b name) → a ≡ b
same_headers a b same = same_map nat_list_cmp_total names_differ a b same

-- what a name with a value, and one without, are joined to
joined_some : (vs : List (List ℕ)) → vs ≢ [] → joined vs ≡ Some (with_commas vs)
joined_some [] some = absurd (some refl)
joined_some (v ∷ vs) some = refl

-- and no other map has
pub same_joined : (es : List Entry) (m n : HeaderMap) → AreJoined es m → AreJoined es n → m ≡ n
same_joined es m n h k = same_headers m n (λ name. h name ∙ sym (k name))

-- entries with the same values of each name have the same headers
pub headers_of_same : (es ds : List Entry)
    → ((name : List ℕ) → values_of name ds ≡ values_of name es) → headers_of ds ≡ headers_of es
headers_of_same es ds same = same_joined es (headers_of ds) (headers_of es)
    (λ name. are_joined_headers_of ds name ∙ ap joined (same name)) (are_joined_headers_of es)

-- one entry more
pub headers_of_more : (es : List Entry) (e : Entry)
    → headers_of (es ++ e ∷ []) ≡ insert (headers_of es) e.0 (added (get (headers_of es) e.0) e.1)
headers_of_more es e =
    sym (same_joined (es ++ e ∷ []) _ _ at (are_joined_headers_of (es ++ e ∷ [])))
  where
    w : List ℕ
    w = added (get (headers_of es) e.0) e.1

    at : AreJoined (es ++ e ∷ []) (insert (headers_of es) e.0 w)
    at name = get-insert nat_list_cmp_total (headers_of es) e.0 w name
        ∙ rw (ties_by_test name e.0) (elim (bytes_eq e.0 name) as (λ b. bytes_eq e.0 name ≡ b
        → cond b (Some w) (get (headers_of es) name) ≡ joined (values_of name (es ++ e ∷ []))) [
          | true ↦ λ t. rw (← same_from_test e.0 name t)
              (ap (λ v. Some (added v e.1)) (are_joined_headers_of es e.0)
              ∙ sym (joined_added (values_of e.0 es) e.1)
              ∙ ap joined (sym (values_of_named e.0 e.1 es)))
          | false ↦ λ t. are_joined_headers_of es name
              ∙ ap joined (sym (values_of_other name es e t))
        ] refl)

-- as entries in order
pub entries_more : (es : List Entry) (e : Entry) → entries (headers_of (es ++ e ∷ []))
    ≡ put name_cmp e.0 (added (find name_cmp e.0 (entries (headers_of es))) e.1)
    (entries (headers_of es))
entries_more es e = ap entries (headers_of_more es e)
    ∙ entries-insert nat_list_cmp_total (headers_of es) e.0 _
    ∙ ap (λ v. put name_cmp e.0 (added v e.1) (entries (headers_of es)))
    (get-entries (headers_of es) e.0)

-- a map of a list has no more entries than the list
len_from_entries : (es : List Entry) → len (from_entries {R = name_cmp} es) ≤ length es
len_from_entries [] = let none = len-empty name_cmp (List ℕ) in omega (arith, none)
len_from_entries (e ∷ es) =
    let before = len_from_entries es in
    let after = len-insert nat_list_cmp_total (from_entries {R = name_cmp} es) e.0 e.1 in
    rw after (elim (is_some (get (from_entries {R = name_cmp} es) e.0)) as
    (λ b. cond b (len (from_entries {R = name_cmp} es)) (len (from_entries {R = name_cmp} es) + 1)
    ≤ length (e ∷ es)) [
      | true ↦ omega (arith, before)
      | false ↦ omega (arith, before)
    ])

-- headers are no more than their entries
pub len_headers_of : (es : List Entry) → len (headers_of es) ≤ length es
unfolding headers_of
len_headers_of es =
    let whole : Entry → Entry = λ e. (e.0, with_commas (values_of e.0 es)) in
    let few = len_from_entries (map whole es) in
    let long = length-map es whole in
    omega (arith, few, long)

-- what the headers of entries have at a name
pub joined_there : (es : List Entry) (name : List ℕ) → values_of name es ≢ []
    → get (headers_of es) name ≡ Some (with_commas (values_of name es))
joined_there es name some = are_joined_headers_of es name ∙ joined_some (values_of name es) some

pub joined_absent : (es : List Entry) (name : List ℕ) → values_of name es ≡ []
    → get (headers_of es) name ≡ None
joined_absent es name none = are_joined_headers_of es name ∙ ap joined none
