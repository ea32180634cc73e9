-- From what filters take of the extensions to what a response gives, or what refuses it.
use Rattle.std.proofs.Common.{◌≡◌, Bool, true, false, ◌⊎◌, inl, inr, ℕ, Some, List, [], ◌∷◌, refl, bytes_eq}
use Rattle.std.specs.Prelude.{Option, Result, Ok, Err, IfOk, IfErr, OnErr, if◌then◌else◌}
use Rattle.std.specs.declared.alloc.AllocError.{AllocError}
use Rattle.std.specs.List.{AllZip}
use Rattle.std.specs.declared.alloc.Global.{Global}
use Rattle.std.specs.declared.vec.Vec.{Vec}
use Rattle.std.proofs.lemmas.Result.{IfErr-weaker, IfOk-weaker}
use Rattle.std.proofs.lemmas.Slice.Eq.{bytes_eq-Decides}
use Rattle.proto_wire.specs.declared.placed.Fault.{Fault as Placed}
use Rattle.proto_wire.specs.declared.refusal.Refusal.{Refusal}
use Rattle.xds_wire.specs.Discovery.{AnyMessage, ExtensionMessage, ResponseMessage}
use Rattle.proto_wire.specs.Merge.{SomeOf}
use Rattle.attributes.specs.Limits.{LimitsValue}
use Rattle.cel_tree.specs.Checked.{CelChecked}
use Rattle.rbac_policy.specs.Filter.{Filter}
use Rattle.rbac_policy.specs.Admission.{Admits}
use Rattle.rbac_policy.specs.Admitted.{filter_view, limits_view}
use Rattle.rbac_policy.specs.declared.filter.Admitted.{Admitted}
use Rattle.cost_bound.specs.declared.budget.Budget.{Budget}
use Rattle.ads.specs.Config.{ConfigValue, FilterValue}
use Rattle.ads.specs.private.Taking.{filter_of}
use Rattle.ads.specs.Answer.{Gives, HoldsFilter, named, IsResource, IsNamed, IsRefusedFor, TwoOf, Refuses, doubled, refused, ExtensionIsRefused, FirstOf, HoldsFilterOf, IsAdmitting, RefusesNothing, extension_type, no_filter, not_admitted}
use Rattle.ads.specs.Judgements.{FirstAt, IsRefusedAs, IsRefusedBy, Unfit, another_type, message_refused, two_extensions}
use Rattle.ads.specs.Views.{admitted_view, policies_view}
use Rattle.ads.specs.private.Taking.{IsFirstUnfit, MatchNotAccepted, RunsOut, taking, IsJudged, given_of}
use Rattle.ads.specs.declared.refused.RefusalCause.{RefusalCause}
use Rattle.ads.specs.declared.judging.Judged.{Judged}
use Rattle.ads.specs.declared.judging.Judged.TheVariants as judged
use Rattle.ads.specs.declared.refused.NotAccepted.{NotAccepted}
use Rattle.ads.specs.declared.refused.NotAccepted.TheVariants as not_accepted
use Rattle.ads.proofs.Lists.{first_of_at, first_or, first_weaker, first_with, some_weaker, some_with}

-- the resource is an extension of this name, of which this holds
Holds : List ℕ → (ExtensionMessage → Type 0) → AnyMessage → Type 0
Holds n P any = (x : ExtensionMessage) × IsResource any x × (x.name ≡ n) × P x

-- what holds of an extension of the name holds of its resource
some_named : (n : List ℕ) (P : ExtensionMessage → Type 0) (rs : List AnyMessage) (xs : List ExtensionMessage)
    → AllZip IsResource rs xs → SomeOf P (named n xs)
    → SomeOf (λ any. (x : ExtensionMessage) × IsResource any x × (x.name ≡ n) × P x) rs
some_named n P [] [] all some = absurd some
some_named n P [] (x ∷ xs) all some = absurd all
some_named n P (r ∷ rs) [] all some = absurd all
some_named n P (r ∷ rs) (x ∷ xs) (is, all) some =
    by (bytes_eq x.name n) refl some (some_named n P rs xs all)
  where
    Later : Type 0
    Later = SomeOf (λ any. (x : ExtensionMessage) × IsResource any x × (x.name ≡ n) × P x) rs

    by : (b : Bool) → bytes_eq x.name n ≡ b → SomeOf P (if b then x ∷ named n xs else named n xs)
        → (SomeOf P (named n xs) → Later)
        → ((x : ExtensionMessage) × IsResource r x × (x.name ≡ n) × P x) ⊎ Later
    by true eq (inl p) more = inl (x, is, (bytes_eq-Decides x.name n).0 eq, p)
    by true eq (inr p) more = inr (more p)
    by false eq p more = inr (more p)

-- two extensions of the name are two resources
two_named : (n : List ℕ) (a b : ExtensionMessage) (more : List ExtensionMessage) (rs : List AnyMessage)
    (xs : List ExtensionMessage) → AllZip IsResource rs xs → named n xs ≡ a ∷ b ∷ more
    → TwoOf (IsNamed n) rs
two_named n a b more [] [] all is = absurd cc
two_named n a b more [] (x ∷ xs) all is = absurd all
two_named n a b more (r ∷ rs) [] all is = absurd all
two_named n a b more (r ∷ rs) (x ∷ xs) (is, all) two =
    by (bytes_eq x.name n) refl two (two_named n a b more rs xs all)
    (some_named n (λ x. Unit {0}) rs xs all)
  where
    by : (t : Bool) → bytes_eq x.name n ≡ t
        → (if t then x ∷ named n xs else named n xs) ≡ a ∷ b ∷ more
        → (named n xs ≡ a ∷ b ∷ more → TwoOf (IsNamed n) rs)
        → (SomeOf (λ x. Unit {0}) (named n xs)
        → SomeOf (λ any. (x : ExtensionMessage) × IsResource any x × (x.name ≡ n) × Unit {0}) rs)
        → (IsNamed n r × SomeOf (IsNamed n) rs) ⊎ TwoOf (IsNamed n) rs
    by true eq list rest some =
        let tail : named n xs ≡ b ∷ more = cc in
        let here : IsNamed n r = (x, is, (bytes_eq-Decides x.name n).0 eq) in
        let there = some (rw tail (inl tt)) in
        inl (here, some_weaker _ (IsNamed n) (λ any p. (p.0, p.1, p.2)) rs there)
    by false eq list rest some = inr (rest list)

pub not_accepted_weaker : (P Q : RefusalCause → Type 0) (M N : Type 0) → ((e : RefusalCause) → P e → Q e) → (M → N)
    → (n : NotAccepted) → MatchNotAccepted P M n → MatchNotAccepted Q N n
not_accepted_weaker P Q M N weaker less (not_accepted.Refused e) p = weaker e p
not_accepted_weaker P Q M N weaker less not_accepted.NoMemory m = less m

module _ (c : ConfigValue) (response : ResponseMessage) (xs : List ExtensionMessage)
    (reads : AllZip IsResource response.resources xs) where
  -- why one filter takes nothing, reported of the resources
  abbrev OneFault : Refusal → FilterValue → Type 0
  OneFault e f = (TwoOf (IsNamed f.name) response.resources × (e ≡ Refusal.DuplicateResource))
      ⊎ (SomeOf (IsRefusedFor c.limits f e) response.resources
      ⊎ (((bytes : List ℕ) × HoldsFilterOf xs f bytes) × (e ≡ Refusal.Memory)))

  one_fault : (fault : Placed) (bytes : List ℕ) (f : FilterValue) → Unfit c.limits xs f fault bytes
      → OneFault fault.refusal f
  one_fault fault bytes f (two_extensions x y more two is none) =
      inl (two_named f.name x y more response.resources xs reads two, is)
  one_fault fault bytes f (another_type x one other is none) =
      inr (inl (some_named f.name (λ x. ExtensionIsRefused c.limits f x fault.refusal) response.resources xs reads
      (rw one (inl (no_filter other is)))))
  one_fault fault bytes f (message_refused (x, one, holds) faulty left placed) = elim faulty [
    | inl memory ↦ inr (inr ((bytes, (x, one, holds)), memory))
    | inr wrong ↦
        inr (inl (some_named f.name (λ x. ExtensionIsRefused c.limits f x fault.refusal) response.resources xs reads
        (rw one (inl (not_admitted bytes holds wrong)))))
  ]

  -- the filters before the first one refuse nothing
  abbrev First : (FilterValue → Type 0) → Type 0
  First P = FirstOf (RefusesNothing c.limits xs) P c.filters

  -- a filter that can take nothing is doubled or refused, or memory ran out
  refuses_by : response.type_url ≡ extension_type → (fault : Placed) (bytes : List ℕ)
      → First (λ f. Unfit c.limits xs f fault bytes)
      → ((fault.refusal ≡ Refusal.Memory) × IsAdmitting c response) ⊎ Refuses c response fault.refusal
  refuses_by type_url fault bytes first =
      let e : Refusal = fault.refusal in
      let Q : FilterValue → Type 0 = RefusesNothing c.limits xs in
      let Two : FilterValue → Type 0 = λ f. TwoOf (IsNamed f.name) response.resources in
      let Bad : FilterValue → Type 0 = λ f. SomeOf (IsRefusedFor c.limits f e) response.resources in
      let Full : FilterValue → Type 0 = λ f. (bytes : List ℕ) × HoldsFilterOf xs f bytes in
      elim (first_or Q (λ f. Two f × (e ≡ Refusal.DuplicateResource))
      (λ f. Bad f ⊎ (Full f × (e ≡ Refusal.Memory))) c.filters
      (first_weaker Q _ (OneFault e) (one_fault fault bytes) c.filters first)) [
        | inl two ↦ let reported = some_with Two _ c.filters two in inr (doubled reported.0 reported.1)
        | inr others ↦ elim (first_or Q Bad (λ f. Full f × (e ≡ Refusal.Memory)) c.filters others) [
          | inl is ↦ inr (refused is)
          | inr full ↦
              let reported = first_with Q Full _ c.filters full in
              inl (reported.1, record { extensions = xs; type_url = type_url; reads = reads; asked = reported.0 })
        ]
      ]

  -- what the filters take of the extensions is what the response gives
  pub given_from_taken : response.type_url ≡ extension_type → (r : Result (Vec (Option Admitted) Global) NotAccepted)
      → IfOk r (λ given. AllZip (λ f. Gives c.limits f (named f.name xs)) c.filters (policies_view given.items))
      → IfOk r (λ given. IsJudged c response (judged.Given given))
  given_from_taken type_url r taken = IfOk-weaker r _ _ (λ given gives. (type_url, xs, reads, gives)) taken

  -- what the filters refuse is refused of the response
  pub refused_from_taken : response.type_url ≡ extension_type → (r : Result (Vec (Option Admitted) Global) NotAccepted)
      → IfErr r (MatchNotAccepted (IsFirstUnfit c.limits xs c.filters) (First (RefusesNothing c.limits xs)))
      → IfErr r (MatchNotAccepted (λ e. IsJudged c response (judged.Refused e)) (RunsOut c response))
  refused_from_taken type_url r taken =
      IfErr-weaker r _ _ (not_accepted_weaker _ _ _ _
      (λ e reported. refused_at e.fault e.filter e.message.now reported)
      (λ first. taking xs type_url reads first)) taken
    where
      refused_at : (fault : Placed) (filter : Option ℕ) (bytes : List ℕ)
          → (place : ℕ) × (filter ≡ Some place)
          × FirstAt (RefusesNothing c.limits xs) (λ f. Unfit c.limits xs f fault bytes) place c.filters
          → IsRefusedAs c response fault filter bytes
      refused_at fault filter bytes (place, is, first) =
          rw is (record { extensions = xs; type_url = type_url; reads = reads; first = first })

-- a filter that is refused refuses its response
pub refused_by : (c : ConfigValue) (response : ResponseMessage) (place : ℕ) (fault : Placed) (bytes : List ℕ)
    → IsRefusedBy c response place fault bytes
    → ((fault.refusal ≡ Refusal.Memory) × IsAdmitting c response) ⊎ Refuses c response fault.refusal
refused_by c response place fault bytes is =
    refuses_by c response is.extensions is.reads is.type_url fault bytes
    (first_of_at (RefusesNothing c.limits is.extensions) (λ f. Unfit c.limits is.extensions f fault bytes) place c.filters
    is.first)

-- what is judged so is what the response gives, or its refusal
pub judged_is : (c : ConfigValue) (response : ResponseMessage) (given : Result (Vec (Option Admitted) Global) NotAccepted)
    → IfOk given (λ v. IsJudged c response (judged.Given v))
    → IfErr given (MatchNotAccepted (λ e. IsJudged c response (judged.Refused e)) (RunsOut c response))
    → (j : Judged) → given ≡ given_of j → IsJudged c response j
judged_is c response given found fault (judged.Given v) same = rw same at found
judged_is c response given found fault (judged.Refused e) same = rw same at fault

-- memory ran out where no refusal was found
pub runs_out : (c : ConfigValue) (response : ResponseMessage)
    (given : Result (Vec (Option Admitted) Global) NotAccepted) (r : Result Judged AllocError)
    → IfErr given (MatchNotAccepted (λ e. IsJudged c response (judged.Refused e)) (RunsOut c response))
    → OnErr r (given ≡ Err not_accepted.NoMemory) → OnErr r (RunsOut c response)
runs_out c response given (Ok j) fault same = tt
runs_out c response given (Err e) fault same = rw same at fault

-- what is admitted is given to a filter of any name
pub admitted_gives : {E : Type 0} (limits : LimitsValue) (budget : Budget) (x : ExtensionMessage) (bytes : List ℕ)
    → HoldsFilter x bytes → (r : Result Admitted E)
    → IfOk r (λ a. (policies : Filter CelChecked) × Admits bytes limits budget policies (filter_view a))
    → IfOk r (λ a. limits_view a ≡ limits) → (a : Admitted) → r ≡ Ok a
    → (name : List ℕ) → Gives limits (filter_of name budget) (x ∷ []) (Some (admitted_view a))
admitted_gives limits budget x bytes holds r found same a is name =
    let admits = rw is at found in
    let limited : limits_view a ≡ limits = rw is at same in
    (bytes, admitted_view a, holds, (admits.0, filter_view a, admits.1, rw limited refl), refl)
