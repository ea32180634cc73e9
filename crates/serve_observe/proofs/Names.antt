-- The names of filters by the entries of a configuration's map.
use Rattle.std.proofs.Common.{◌≡◌, ◌∙◌, ℕ, List, Option, Some, None, String, Global, ap, option_map, refl, slice_get, string_bytes}
use Rattle.std.proofs.lemmas.Option.{slice_get-map}
use Rattle.cost_bound.specs.declared.budget.Budget.{Budget}
use Rattle.ads.specs.Config.{FilterValue, names_of}
use Rattle.ads.specs.Views.{entries_view, entry_view}

-- an entry's name is its filter's
name_of : (entry : Option (String Global × Budget))
    → option_map (λ (f : FilterValue). f.name) (option_map entry_view entry) ≡ option_map (λ e. string_bytes e.0) entry
name_of None = refl
name_of (Some entry) = refl

-- the name in a place is that of the entry there
pub name_at : (entries : List (String Global × Budget)) (filters : List FilterValue) (k : ℕ) → entries_view entries ≡ filters
    → slice_get (names_of filters) k ≡ option_map (λ e. string_bytes e.0) (slice_get entries k)
name_at entries filters k is =
    rw (← is) (slice_get-map (λ (f : FilterValue). f.name) (entries_view entries) k
    ∙ ap (option_map (λ (f : FilterValue). f.name)) (slice_get-map entry_view entries k) ∙ name_of (slice_get entries k))
