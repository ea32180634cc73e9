-- The values of the pseudo-headers end with what the request gives them.
use Rattle.std.proofs.Common.{◌≡◌, ℕ, List, [], ◌∷◌, ◌++◌, Some, None, codes, refl, sym, ap, ◌∙◌, append_assoc}
use Rattle.std.specs.FinMap.{entries, find, get-entries}
use Rattle.std.proofs.lemmas.List.{map-append}
use Rattle.std.proofs.lemmas.List.Elements.{filter-append}
use Rattle.attributes.specs.Headers.{Entry, headers_of, name_cmp, values_of}
use Rattle.attributes.specs.private.Drafts.{own_entries}
use Rattle.attributes.specs.private.Headers.{joined}
use Rattle.attributes.proofs.Joining.{added, are_joined_headers_of, joined_added}

-- values that are joined end with the last of them
last_value : (vs : List (List ℕ)) (v : List ℕ)
    → (front : List ℕ) × (joined (vs ++ v ∷ []) ≡ Some (front ++ v))
last_value vs v = elim (joined vs) as (λ o. joined vs ≡ o
    → (front : List ℕ) × (joined (vs ++ v ∷ []) ≡ Some (front ++ v))) [
      | None ↦ λ e. ([], joined_added vs v ∙ ap (λ o. Some (added o v)) e)
      | Some w ↦ λ e. (
        w ++ 44 ∷ [],
        joined_added vs v ∙ ap (λ o. Some (added o v)) e
            ∙ ap Some (sym (append_assoc w (44 ∷ []) v)),
      )
    ] refl

-- the values of a name of more entries
values_of_append : (name : List ℕ) (es ds : List Entry)
    → values_of name (es ++ ds) ≡ values_of name es ++ values_of name ds
values_of_append name es ds = simp (filter-append, map-append)

module _ (es : List Entry) (method target scheme : List ℕ) where
  found_last : (name v : List ℕ) → values_of name (own_entries method target scheme) ≡ v ∷ []
      → (front : List ℕ) × (find name_cmp name
      (entries (headers_of (es ++ own_entries method target scheme))) ≡ Some (front ++ v))
  found_last name v one =
      let all : List Entry = es ++ own_entries method target scheme in
      let last = last_value (values_of name es) v in (
        last.0,
        sym (get-entries (headers_of all) name) ∙ are_joined_headers_of all name
            ∙ ap joined (values_of_append name es (own_entries method target scheme)
            ∙ ap (λ vs. values_of name es ++ vs) one) ∙ last.1,
      )

  pub method_last : (front : List ℕ) × (find name_cmp (codes ":method")
      (entries (headers_of (es ++ own_entries method target scheme))) ≡ Some (front ++ method))
  method_last = found_last (codes ":method") method refl

  pub target_last : (front : List ℕ) × (find name_cmp (codes ":path")
      (entries (headers_of (es ++ own_entries method target scheme))) ≡ Some (front ++ target))
  target_last = found_last (codes ":path") target refl
