-- The extensions of a name, among the first extensions and among all.
use Rattle.std.proofs.Common.{◌≡◌, ℕ, ◌+◌, ◌<◌, Bool, true, false, List, [], ◌∷◌, ◌++◌, length, map, take, drop, get_or, refl, ap, sym, ◌∙◌, bytes_eq, if◌then◌else◌, Option, Some, None, is_some, true≢false, not}
use Rattle.std.specs.Prelude.{MatchOption}
use Rattle.std.proofs.lemmas.List.{map_more, map-append, take-append-drop}
use Rattle.xds_wire.specs.Discovery.{ExtensionMessage}
use Rattle.xds_wire.specs.View.{extension_view}
use Rattle.xds_wire.specs.declared.extension.TypedExtensionConfig.{TypedExtensionConfig}
use Rattle.ads.specs.Answer.{named}
use Rattle.ads.specs.private.Taking.{IsDoubled}

-- those of two lists
pub named_append : (n : List ℕ) (xs ys : List ExtensionMessage)
    → named n (xs ++ ys) ≡ named n xs ++ named n ys
named_append n [] ys = refl
named_append n (x ∷ xs) ys = by (bytes_eq x.name n) (named_append n xs ys)
  where
    by : (b : Bool) → named n (xs ++ ys) ≡ named n xs ++ named n ys
        → (if b then x ∷ named n (xs ++ ys) else named n (xs ++ ys))
        ≡ (if b then x ∷ named n xs else named n xs) ++ named n ys
    by true more = ap (λ zs. x ∷ zs) more
    by false more = more

-- one extension more, of the name or of another
pub named_more : (n : List ℕ) (xs : List TypedExtensionConfig) (i : ℕ) (d : TypedExtensionConfig)
    → i < length xs
    → named n (map extension_view (take (i + 1) xs))
    ≡ named n (map extension_view (take i xs)) ++ named n (extension_view (get_or xs i d) ∷ [])
named_more n xs i d within =
    ap (named n) (map_more extension_view xs i d within)
    ∙ named_append n (map extension_view (take i xs)) (extension_view (get_or xs i d) ∷ [])

pub named_yes : (n : List ℕ) (x : ExtensionMessage) → bytes_eq x.name n ≡ true
    → named n (x ∷ []) ≡ x ∷ []
named_yes n x is = rw is refl

pub named_no : (n : List ℕ) (x : ExtensionMessage) → bytes_eq x.name n ≡ false
    → named n (x ∷ []) ≡ []
named_no n x is = rw is refl

-- a second extension of the name
pub doubled : (n : List ℕ) (xs : List TypedExtensionConfig) (i : ℕ) (d : TypedExtensionConfig)
    (a : ExtensionMessage) → i < length xs
    → named n (map extension_view (take i xs)) ≡ a ∷ []
    → bytes_eq (extension_view (get_or xs i d)).name n ≡ true
    → IsDoubled n (map extension_view xs)
doubled n xs i d a within one is =
    let x : ExtensionMessage = extension_view (get_or xs i d) in
    let first : named n (map extension_view (take (i + 1) xs)) ≡ a ∷ x ∷ [] =
    named_more n xs i d within ∙ ap (λ ys. ys ++ named n (x ∷ [])) one
    ∙ ap (λ ys. a ∷ ys) (named_yes n x is) in
    let split : map extension_view xs
    ≡ map extension_view (take (i + 1) xs) ++ map extension_view (drop (i + 1) xs) =
    ap (map extension_view) (sym (take-append-drop (i + 1) xs))
    ∙ map-append extension_view (take (i + 1) xs) (drop (i + 1) xs) in (
      a,
      x,
      named n (map extension_view (drop (i + 1) xs)),
      ap (named n) split ∙ named_append n _ _ ∙ ap (λ ys. ys ++ named n (map extension_view (drop (i + 1) xs))) first,
    )

-- a second extension of the name, behind the one that was found
pub doubled_found : (n : List ℕ) (xs : List TypedExtensionConfig) (i : ℕ) (d : TypedExtensionConfig)
    (found : Option TypedExtensionConfig) → i < length xs
    → MatchOption found (named n (map extension_view (take i xs)) ≡ [])
    (λ x. named n (map extension_view (take i xs)) ≡ extension_view x ∷ [])
    → true ≡ is_some found → bytes_eq (extension_view (get_or xs i d)).name n ≡ true
    → IsDoubled n (map extension_view xs)
doubled_found n xs i d None within so_far is same = absurd (true≢false is)
doubled_found n xs i d (Some x) within so_far is same = doubled n xs i d (extension_view x) within so_far same

-- a test that does not fail
pub not_false : (b : Bool) → false ≡ not b → b ≡ true
not_false true is = refl
not_false false is = absurd (true≢false (sym is))
