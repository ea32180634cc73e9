-- What a response leaves open, with one filter or one resource more.
use Rattle.std.proofs.Common.{◌≡◌, ◌∙◌, ◌++◌, ◌||◌, ◌<◌, ◌+◌, ℕ, Bool, true, false, List, [], ◌∷◌, Option, None, Some, String, Global, ap, append-nil, arith, bytes_eq, cond, filter, get_or, is_some, length, map, not, option_map, refl, slice_get, string_bytes, sym, take}
use Rattle.std.specs.Map.{lookup}
use Rattle.std.proofs.lemmas.List.{length-map, length-take-le, map-append, map_more}
use Rattle.std.proofs.lemmas.List.Elements.{filter-append}
use Rattle.cost_bound.specs.declared.budget.Budget.{Budget}
use Rattle.ads.specs.Answer.{AdmittedValue}
use Rattle.ads.specs.Config.{names_of}
use Rattle.ads.specs.Views.{admitted_view, entries_view}
use Rattle.rbac_policy.specs.declared.filter.Admitted.{Admitted}
use Rattle.xds_wire.proofs.Each.{zip_push}
use Rattle.xds_wire.specs.Discovery.{AnyMessage, ExtensionMessage}
use Rattle.xds_wire.specs.View.{any_view}
use Rattle.xds_wire.specs.declared.any.Any.{Any}
use Rattle.serve_observe.specs.Gaps.{AreUnaskedIn, IsExtensionOf, is_asked, lacks_policies, names_without, unasked_of}

-- further elements after a list that may begin with one more
if_both : {X : Type 0} (b : Bool) (x : X) (xs ys more : List X) → ys ≡ xs ++ more
    → cond b (x ∷ ys) ys ≡ cond b (x ∷ xs) xs ++ more
if_both true x xs ys more is = ap (λ l. x ∷ l) is
if_both false x xs ys more is = is

-- no filter is left
pub none_left : (names : List (List ℕ)) → names_without names [] ≡ []
none_left [] = refl
none_left (n ∷ names) = refl

-- one filter more, which is without policies
pub one_without : (names : List (List ℕ)) (policies : List (Option AdmittedValue)) (p : Option AdmittedValue) (name : List ℕ)
    → slice_get names (length policies) ≡ Some name → lacks_policies p ≡ true
    → names_without names (policies ++ p ∷ []) ≡ names_without names policies ++ name ∷ []
one_without [] policies p name found lacks = let clash : None ≡ Some name = found in absurd cc
one_without (n ∷ names) [] p name found lacks =
    let same : n ≡ name = cc in
    rw (lacks, none_left names) (ap (λ it. it ∷ []) same)
one_without (n ∷ names) (q ∷ policies) p name found lacks =
    if_both (lacks_policies q) n (names_without names policies) (names_without names (policies ++ p ∷ [])) (name ∷ [])
    (one_without names policies p name found lacks)

-- or has some
pub one_with : (names : List (List ℕ)) (policies : List (Option AdmittedValue)) (p : Option AdmittedValue)
    → lacks_policies p ≡ false → names_without names (policies ++ p ∷ []) ≡ names_without names policies
one_with [] policies p lacks = refl
one_with (n ∷ names) [] p lacks = rw lacks (none_left names)
one_with (n ∷ names) (q ∷ policies) p lacks =
    ap (λ l. cond (lacks_policies q) (n ∷ l) l) (one_with names policies p lacks)

-- or that no name is left for
pub one_beyond : (names : List (List ℕ)) (policies : List (Option AdmittedValue)) (p : Option AdmittedValue)
    → slice_get names (length policies) ≡ None → names_without names (policies ++ p ∷ []) ≡ names_without names policies
one_beyond [] policies p beyond = refl
one_beyond (n ∷ names) [] p beyond = let clash : Some n ≡ None = beyond in absurd cc
one_beyond (n ∷ names) (q ∷ policies) p beyond =
    ap (λ l. cond (lacks_policies q) (n ∷ l) l) (one_beyond names policies p beyond)

module _ (names : List (List ℕ)) (policies : List (Option Admitted)) (i : ℕ) (d : Option Admitted)
    (within : i < length policies) where
  abbrev view : Option Admitted → Option AdmittedValue
  view = option_map admitted_view

  -- the policies so far, with those of one filter more
  seen : map view (take (i + 1) policies) ≡ map view (take i policies) ++ view (get_or policies i d) ∷ []
  seen = map_more view policies i d within

  -- how many they are
  known : length (map view (take i policies)) ≡ i
  known = length-map (take i policies) view ∙ length-take-le i policies (omega arith)

  -- so the names so far have one more
  pub without_next : (name : List ℕ) → slice_get names i ≡ Some name → lacks_policies (view (get_or policies i d)) ≡ true
      → names_without names (map view (take i policies)) ++ name ∷ [] ≡ names_without names (map view (take (i + 1) policies))
  without_next name found lacks =
      let here : slice_get names (length (map view (take i policies))) ≡ Some name = rw known found in
      rw seen (sym (one_without names (map view (take i policies)) (view (get_or policies i d)) name here lacks))

  -- or none, since the filter has policies
  pub with_next : lacks_policies (view (get_or policies i d)) ≡ false
      → names_without names (map view (take i policies)) ≡ names_without names (map view (take (i + 1) policies))
  with_next lacks = rw seen (sym (one_with names (map view (take i policies)) (view (get_or policies i d)) lacks))

  -- or since no name is left
  pub beyond_next : slice_get names i ≡ None
      → names_without names (map view (take i policies)) ≡ names_without names (map view (take (i + 1) policies))
  beyond_next beyond =
      let here : slice_get names (length (map view (take i policies))) ≡ None = rw known beyond in
      rw seen (sym (one_beyond names (map view (take i policies)) (view (get_or policies i d)) here))

-- a filter has a name exactly if the map of the filters has it as a key
pub asked_by : (name : List ℕ) (entries : List (String Global × Budget))
    → is_some (lookup (λ k. bytes_eq name (string_bytes k)) entries) ≡ is_asked (names_of (entries_view entries)) name
asked_by name [] = refl
asked_by name (e ∷ entries) = by (bytes_eq name (string_bytes e.0)) (asked_by name entries)
  where
    by : (b : Bool) → is_some (lookup (λ k. bytes_eq name (string_bytes k)) entries) ≡ is_asked (names_of (entries_view entries)) name
        → is_some (cond b (Some e.1) (lookup (λ k. bytes_eq name (string_bytes k)) entries))
        ≡ (b || is_asked (names_of (entries_view entries)) name)
    by true so_far = refl
    by false so_far = so_far

-- the last name of extensions
last_name : (asked : List (List ℕ)) (extensions : List ExtensionMessage) (e : ExtensionMessage)
    → unasked_of asked (extensions ++ e ∷ []) ≡ unasked_of asked extensions ++ unasked_of asked (e ∷ [])
last_name asked extensions e =
    let test : ExtensionMessage → Bool = λ it. not (is_asked asked it.name) in
    ap (map (λ it. it.name)) (filter-append test extensions (e ∷ []))
    ∙ map-append (λ it. it.name) (filter test extensions) (filter test (e ∷ []))

module _ (asked : List (List ℕ)) (resources : List AnyMessage) (names : List (List ℕ)) (any : AnyMessage)
    (e : ExtensionMessage) (reads : IsExtensionOf any e) (so_far : AreUnaskedIn asked resources names) where
  -- one resource more, whose name nobody asked for
  pub one_unasked : is_asked asked e.name ≡ false → AreUnaskedIn asked (resources ++ any ∷ []) (names ++ e.name ∷ [])
  one_unasked is = record {
    extensions = so_far.extensions ++ e ∷ [];
    reads = zip_push IsExtensionOf resources so_far.extensions any e so_far.reads reads;
    names_are = rw (last_name asked so_far.extensions e, is, ← so_far.names_are) refl;
  }

  -- or that somebody asked for
  pub one_asked : is_asked asked e.name ≡ true → AreUnaskedIn asked (resources ++ any ∷ []) names
  one_asked is = record {
    extensions = so_far.extensions ++ e ∷ [];
    reads = zip_push IsExtensionOf resources so_far.extensions any e so_far.reads reads;
    names_are = rw (last_name asked so_far.extensions e, is, append-nil, ← so_far.names_are) refl;
  }

module _ (asked : List (List ℕ)) (all : List Any) (i : ℕ) (d : Any) (within : i < length all) (names : List (List ℕ))
    (e : ExtensionMessage) (reads : IsExtensionOf (any_view (get_or all i d)) e)
    (so_far : AreUnaskedIn asked (map any_view (take i all)) names) where
  -- so the names so far have one more
  pub unasked_next : is_asked asked e.name ≡ false → AreUnaskedIn asked (map any_view (take (i + 1) all)) (names ++ e.name ∷ [])
  unasked_next is =
      rw (map_more any_view all i d within)
      (one_unasked asked (map any_view (take i all)) names (any_view (get_or all i d)) e reads so_far is)

  -- or none
  pub asked_next : is_asked asked e.name ≡ true → AreUnaskedIn asked (map any_view (take (i + 1) all)) names
  asked_next is =
      rw (map_more any_view all i d within)
      (one_asked asked (map any_view (take i all)) names (any_view (get_or all i d)) e reads so_far is)
