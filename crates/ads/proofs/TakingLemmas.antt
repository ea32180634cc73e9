-- One filter more takes what the extensions give it.
use Rattle.std.proofs.Common.{◌≡◌, inl, inr, refl, ℕ, List, [], ◌∷◌, ◌++◌, length, map, ap, sym, ◌∙◌, append_assoc, Option, Some, option_map}
use Rattle.std.specs.List.{AllZip}
use Rattle.std.specs.Borrow.{Bor}
use Rattle.std.specs.Map.Iter.{deref_pair}
use Rattle.std.specs.String.{string_bytes}
use Rattle.std.specs.declared.string.String.{String}
use Rattle.std.specs.declared.alloc.Global.{Global}
use Rattle.std.proofs.lemmas.List.{length-map, map-append}
use Rattle.attributes.specs.Limits.{LimitsValue}
use Rattle.xds_wire.specs.Discovery.{ExtensionMessage}
use Rattle.cost_bound.specs.declared.budget.Budget.{Budget}
use Rattle.ads.specs.Config.{FilterValue}
use Rattle.ads.specs.Views.{admitted_view}
use Rattle.rbac_policy.specs.declared.filter.Admitted.{Admitted}
use Rattle.ads.specs.Answer.{AdmittedValue, FirstOf, Gives, RefusesNothing, named}
use Rattle.ads.specs.Views.{entries_view, entry_view}
use Rattle.ads.specs.Judgements.{Unfit}
use Rattle.ads.specs.private.Taking.{IsFirstUnfit, filter_of}
use Rattle.ads.specs.declared.refused.RefusalCause.{RefusalCause}
use Rattle.ads.specs.Views.{policies_view}
use Rattle.ads.proofs.Lists.{first_middle, first_place, zip_push}

Entry : Type 0
Entry = String Global × Budget

Lent : Type 0
Lent = Bor (String Global) × Bor Budget

-- a filter that is given policies, or none without an extension, refuses nothing
refuses_none : (limits : LimitsValue) (all : List ExtensionMessage) (f : FilterValue) (ys : List ExtensionMessage)
    (given : Option AdmittedValue) → named f.name all ≡ ys → Gives limits f ys given
    → RefusesNothing limits all f
refuses_none limits all f [] given same gives = inl same
refuses_none limits all f (x ∷ []) given same (bytes, policies, holds, (written, enforced, admits, limited), reported) =
    inr (bytes, (x, same, holds), (written, admits.admissible))
refuses_none limits all f (x ∷ y ∷ ys) given same gives = absurd gives

pub refuses_nothing : (limits : LimitsValue) (all : List ExtensionMessage) (f : FilterValue)
    (given : Option AdmittedValue) → Gives limits f (named f.name all) given → RefusesNothing limits all f
refuses_nothing limits all f given gives = refuses_none limits all f (named f.name all) given refl gives

module _ (limits : LimitsValue) (xs : List ExtensionMessage) (yielded : List (Bor (String Global) × Bor Budget))
    (rest after entries : List (String Global × Budget)) (name : Bor (String Global)) (budget : Bor Budget) (text : List ℕ)
    (whole : map deref_pair yielded ++ rest ≡ entries) (next : rest ≡ (name.now, budget.now) ∷ after)
    (same : text ≡ string_bytes name.now) where
  -- the filter is the first of which this holds; those before it refuse nothing
  pub first_here : (P : FilterValue → Type 0) (given : List (Option Admitted))
      → AllZip (λ f. Gives limits f (named f.name xs)) (entries_view (map deref_pair yielded)) (policies_view given)
      → P (filter_of text budget.now) → FirstOf (RefusesNothing limits xs) P (entries_view entries)
  first_here P given so_far holds =
      let seen : entries_view entries ≡ entries_view (map deref_pair yielded)
      ++ filter_of (string_bytes name.now) budget.now ∷ entries_view after =
      ap entries_view (sym whole ∙ ap (λ ys. map deref_pair yielded ++ ys) next)
      ∙ map-append entry_view (map deref_pair yielded) ((name.now, budget.now) ∷ after) in
      let here : P (filter_of (string_bytes name.now) budget.now) = rw same at holds in
      rw seen (first_middle (RefusesNothing limits xs) P (λ f. Gives limits f (named f.name xs))
      (refuses_nothing limits xs) (entries_view (map deref_pair yielded)) (policies_view given)
      (filter_of (string_bytes name.now) budget.now) (entries_view after) so_far here)

  -- the filter is the first that refuses, and is reported
  pub refuses_here : (given : List (Option Admitted)) (count : ℕ) (e reported : RefusalCause)
      → AllZip (λ f. Gives limits f (named f.name xs)) (entries_view (map deref_pair yielded)) (policies_view given)
      → count ≡ length given → reported.fault ≡ e.fault → reported.filter ≡ Some count → reported.message ≡ e.message
      → Unfit limits xs (filter_of text budget.now) e.fault e.message.now
      → IsFirstUnfit limits xs (entries_view entries) reported
  refuses_here given count e reported so_far counted fault filter message unfit =
      let seen : entries_view entries ≡ entries_view (map deref_pair yielded)
      ++ filter_of (string_bytes name.now) budget.now ∷ entries_view after =
      ap entries_view (sym whole ∙ ap (λ ys. map deref_pair yielded ++ ys) next)
      ∙ map-append entry_view (map deref_pair yielded) ((name.now, budget.now) ∷ after) in
      let here : Unfit limits xs (filter_of (string_bytes name.now) budget.now) e.fault e.message.now =
      rw same at unfit in
      let place : count ≡ length (policies_view given) = counted ∙ sym (length-map given (option_map admitted_view)) in (
        count,
        filter,
        rw (fault, message, seen, place) (first_place (RefusesNothing limits xs) (λ f. Unfit limits xs f e.fault e.message.now)
            (λ f. Gives limits f (named f.name xs)) (refuses_nothing limits xs) (entries_view (map deref_pair yielded))
            (policies_view given) (filter_of (string_bytes name.now) budget.now) (entries_view after) so_far here),
      )

  -- the filter takes what the extensions give
  pub take_more : (given now : List (Option Admitted)) (o : Option Admitted)
      → AllZip (λ f. Gives limits f (named f.name xs)) (entries_view (map deref_pair yielded)) (policies_view given)
      → Gives limits (filter_of text budget.now) (named text xs) (option_map admitted_view o)
      → now ≡ given ++ o ∷ []
      → (map deref_pair (yielded ++ (name, budget) ∷ []) ++ after ≡ entries)
      × AllZip (λ f. Gives limits f (named f.name xs))
      (entries_view (map deref_pair (yielded ++ (name, budget) ∷ []))) (policies_view now)
  take_more given now o so_far gives pushed =
      let more : map deref_pair (yielded ++ (name, budget) ∷ [])
      ≡ map deref_pair yielded ++ (name.now, budget.now) ∷ [] = map-append deref_pair yielded _ in (
        ap (λ ys. ys ++ after) more ∙ append_assoc (map deref_pair yielded) ((name.now, budget.now) ∷ []) after
            ∙ ap (λ ys. map deref_pair yielded ++ ys) (sym next) ∙ whole,
        rw (
          pushed,
          map-append (option_map admitted_view) given (o ∷ []),
          more,
          map-append entry_view (map deref_pair yielded) ((name.now, budget.now) ∷ []),
        )
            (zip_push (λ f. Gives limits f (named f.name xs)) (entries_view (map deref_pair yielded)) (policies_view given)
            (filter_of (string_bytes name.now) budget.now) (option_map admitted_view o) so_far (rw same at gives)),
      )
