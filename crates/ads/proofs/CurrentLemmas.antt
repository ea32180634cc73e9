-- What a filter has stands at the place of its name.
use Rattle.std.proofs.Common.{◌≡◌, ℕ, zero, suc, ◌<◌, Bool, true, false, Option, Some, None, List, [], ◌∷◌, length, get_or, refl, sym, bytes_eq, option_map, position, arith}
use Rattle.std.specs.Prelude.{cond}
use Rattle.std.specs.String.{string_bytes}
use Rattle.std.specs.Map.{keys_of, lookup}
use Rattle.std.specs.declared.string.String.{String}
use Rattle.std.specs.declared.alloc.Global.{Global}
use Rattle.std.proofs.lemmas.List.{length-map}
use Rattle.std.proofs.lemmas.List.Quantifiers.{position-Some}
use Rattle.indexmap.proofs.MapLemmas.{Missing-position}
use Rattle.cost_bound.specs.declared.budget.Budget.{Budget}
use Rattle.ads.specs.Views.{admitted_view}
use Rattle.rbac_policy.specs.declared.filter.Admitted.{Admitted}
use Rattle.ads.specs.Client.{policies_at}
use Rattle.ads.specs.Views.{entries_view}
use Rattle.ads.specs.Views.{policies_view}

module _ (name : List ℕ) where
  abbrev is_key : String Global → Bool
  is_key k = bytes_eq name (string_bytes k)

  -- by the first place whose key is the name
  at_first : (es : List (String Global × Budget)) (ps : List (Option Admitted)) (i : ℕ) (d : String Global)
      (o : Option Admitted) → length ps ≡ length es → i < length es
      → is_key (get_or (keys_of es) i d) ≡ true
      → ((k : ℕ) → k < i → is_key (get_or (keys_of es) k d) ≡ false)
      → policies_at name (entries_view es) (policies_view ps) ≡ option_map admitted_view (get_or ps i o)
  at_first [] ps i d o same within here before = absurd (omega arith)
  at_first (e ∷ es) [] i d o same within here before = absurd (omega (arith, same))
  at_first (e ∷ es) (p ∷ ps) zero d o same within here before = rw here refl
  at_first (e ∷ es) (p ∷ ps) (suc i) d o same within here before =
      let first : is_key e.0 ≡ false = before zero (omega arith) in
      rw first (at_first es ps i d o (omega (arith, same)) (omega arith) here
      (λ k below. before (suc k) (omega (arith, below))))

  -- at the place that a map gives
  pub found_at : (es : List (String Global × Budget)) (ps : List (Option Admitted)) (i : ℕ)
      (o : Option Admitted) → length ps ≡ length es
      → Some i ≡ position (λ k. bytes_eq name (string_bytes k)) (keys_of es)
      → policies_at name (entries_view es) (policies_view ps) ≡ option_map admitted_view (get_or ps i o)
  found_at [] ps i o same is = absurd cc
  found_at (e ∷ es) ps i o same is =
      let found = position-Some (λ k. bytes_eq name (string_bytes k)) (keys_of (e ∷ es)) i e.0 (sym is) in
      let within : i < length (e ∷ es) = omega (arith, found.0, length-map es (λ e. e.0)) in
      at_first (e ∷ es) ps i e.0 o same within found.1 found.2

  no_key : (es : List (String Global × Budget)) (ps : List (Option Admitted))
      → lookup (λ k. bytes_eq name (string_bytes k)) es ≡ None
      → policies_at name (entries_view es) (policies_view ps) ≡ None
  no_key [] ps none = refl
  no_key (e ∷ es) [] none = refl
  no_key (e ∷ es) (p ∷ ps) none = by (bytes_eq name (string_bytes e.0)) refl none (no_key es ps)
    where
      by : (b : Bool) → bytes_eq name (string_bytes e.0) ≡ b
          → cond b (Some e.1) (lookup (λ k. bytes_eq name (string_bytes k)) es) ≡ None
          → (lookup (λ k. bytes_eq name (string_bytes k)) es ≡ None
          → policies_at name (entries_view es) (policies_view ps) ≡ None)
          → policies_at name (entries_view (e ∷ es)) (policies_view (p ∷ ps)) ≡ None
      by true is found more = absurd cc
      by false is found more = rw is (more found)

  -- where no key is the name
  pub not_found : (es : List (String Global × Budget)) (ps : List (Option Admitted))
      → None ≡ position (λ k. bytes_eq name (string_bytes k)) (keys_of es)
      → policies_at name (entries_view es) (policies_view ps) ≡ None
  not_found es ps is =
      no_key es ps (Missing-position (λ k. bytes_eq name (string_bytes k)) es (sym is)).value
