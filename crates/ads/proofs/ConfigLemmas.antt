-- Filters whose names differ stand in a map in the order in which they were put there.
use Rattle.std.proofs.Common.{◌≡◌, ℕ, Bool, true, false, inl, inr, List, [], ◌∷◌, ◌++◌, refl, ap, sym, ◌∙◌}
use Rattle.std.specs.List.{AllZip}
use Rattle.std.specs.String.{string_bytes, string_eq}
use Rattle.std.specs.declared.string.String.{String}
use Rattle.std.specs.declared.alloc.Global.{Global}
use Rattle.std.proofs.lemmas.List.{map-append}
use Rattle.std.proofs.lemmas.Slice.Eq.{bytes_eq-Decides}
use Rattle.indexmap.specs.IndexMap.{insert_entry}
use Rattle.proto_wire.specs.Merge.{SomeOf}
use Rattle.cost_bound.specs.declared.budget.Budget.{Budget}
use Rattle.ads.specs.Config.{FilterValue, HasName, Repeats}
use Rattle.ads.specs.declared.config.Filter.{Filter}
use Rattle.ads.specs.Views.{filter_view, filters_view, entries_view, entry_view}

-- an entry of a new name goes last
insert_new : (k : String Global) (v : Budget) (entries : List (String Global × Budget))
    → (SomeOf (HasName (string_bytes k)) (entries_view entries) → ⊥)
    → insert_entry string_eq entries k v ≡ entries ++ (k, v) ∷ []
insert_new k v [] none = refl
insert_new k v (e ∷ entries) none =
    by (string_eq k e.0) refl (insert_new k v entries (λ some. none (inr some)))
  where
    by : (b : Bool) → string_eq k e.0 ≡ b
        → insert_entry string_eq entries k v ≡ entries ++ (k, v) ∷ []
        → insert_entry string_eq (e ∷ entries) k v ≡ (e ∷ entries) ++ (k, v) ∷ []
    by true is more = absurd (none (inl (sym ((bytes_eq-Decides (string_bytes k) (string_bytes e.0)).0 is))))
    by false is more = rw is (ap (λ es. e ∷ es) more)

-- the name of a filter stands nowhere before it
new_name : (fs rest : List FilterValue) (f : FilterValue)
    → SomeOf (HasName f.name) fs → Repeats (fs ++ f ∷ rest)
new_name [] rest f some = absurd some
new_name (g ∷ fs) rest f (inl same) = inl (later fs)
  where
    later : (gs : List FilterValue) → SomeOf (HasName g.name) (gs ++ f ∷ rest)
    later [] = inl (sym same)
    later (h ∷ gs) = inr (later gs)
new_name (g ∷ fs) rest f (inr some) = inr (new_name fs rest f some)

-- one filter more
pub ordered_more : (entries now : List (String Global × Budget)) (before rest after all : List Filter) (f : Filter)
    → (Repeats (filters_view all) → ⊥) → (entries_view entries ≡ filters_view before)
    → before ++ rest ≡ all → rest ≡ f ∷ after
    → now ≡ insert_entry string_eq entries f.name f.budget
    → (entries_view now ≡ filters_view (before ++ f ∷ []))
ordered_more entries now before rest after all f distinct same whole next inserted =
    let seen : filters_view all ≡ filters_view before ++ filter_view f ∷ filters_view after =
    rw (← whole, next) (map-append filter_view before (f ∷ after)) in
    let none : SomeOf (HasName (string_bytes f.name)) (entries_view entries) → ⊥ =
    λ some. distinct (rw seen (new_name (filters_view before) (filters_view after) (filter_view f)
    (rw (← same) some))) in
    ap entries_view (inserted ∙ insert_new f.name f.budget entries none)
    ∙ map-append entry_view entries ((f.name, f.budget) ∷ [])
    ∙ ap (λ fs. fs ++ filter_view f ∷ []) same ∙ sym (map-append filter_view before (f ∷ []))

-- entries that are clones of others stand for the same filters
pub clones_view : (es fs : List (String Global × Budget))
    → AllZip (λ p q. (string_bytes q.0 ≡ string_bytes p.0) × (q.1 ≡ p.1)) es fs
    → entries_view fs ≡ entries_view es
clones_view [] [] all = refl
clones_view [] (f ∷ fs) all = absurd all
clones_view (e ∷ es) [] all = absurd all
clones_view (e ∷ es) (f ∷ fs) (same, all) = rw (same.0, same.1, clones_view es fs all) refl
