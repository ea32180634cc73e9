-- What a filter takes from the extensions of a response (this project's own).
use Rattle.std.specs.Prelude.{◌≡◌, ◌⊎◌, ℕ, Option, None, Some, Result, Ok, Err, List, [], ◌∷◌}
use Rattle.std.specs.List.{AllZip}
use Rattle.std.specs.declared.alloc.Global.{Global}
use Rattle.std.specs.declared.vec.Vec.{Vec}
use Rattle.attributes.specs.Limits.{LimitsValue}
use Rattle.proto_wire.specs.declared.refusal.Refusal.{Refusal}
use Rattle.xds_wire.specs.Discovery.{AnyMessage, ExtensionMessage, ResponseMessage}
use Rattle.rbac_policy.specs.declared.filter.Admitted.{Admitted}
use Rattle.cost_bound.specs.declared.budget.Budget.{Budget}
use Rattle.ads.specs.Config.{FilterValue, ConfigValue}
use Rattle.ads.specs.Answer.{FirstOf, Gives, IsResource, named, RefusesNothing, ResourceFault, extension_type}
use Rattle.ads.specs.Judgements.{FirstAt, IsRefusedAs, Unfit}
use Rattle.ads.specs.Views.{policies_view}
use Rattle.ads.specs.declared.judging.Judged.{Judged}
use Rattle.ads.specs.declared.judging.Judged.TheVariants as judged
use Rattle.ads.specs.declared.refused.NotAccepted.{NotAccepted}
use Rattle.ads.specs.declared.refused.NotAccepted.TheVariants as not_accepted
use Rattle.ads.specs.declared.refused.RefusalCause.{RefusalCause}

-- the resource is an extension with a name
abbrev pub Reads : AnyMessage → Type 0
Reads any = (extension : ExtensionMessage) × IsResource any extension

-- memory runs out while a resource of the right type is read, or the resource has this fault
abbrev pub ReadFault : AnyMessage → Refusal → Type 0
ReadFault any e = ((e ≡ Refusal.Memory) × (any.type_url ≡ extension_type)) ⊎ ResourceFault any e

-- at least two extensions have the name
abbrev pub IsDoubled : List ℕ → List ExtensionMessage → Type 0
IsDoubled name xs = (x y : ExtensionMessage) × (more : List ExtensionMessage) × (named name xs ≡ x ∷ y ∷ more)

-- the response or one of its resources is wrong, with this refusal
abbrev pub IsWhole : Refusal → RefusalCause → Type 0
IsWhole refusal r = (r.fault.refusal ≡ refusal) × (r.filter ≡ None) × (r.message.now ≡ [])

-- the reason names the first filter that refuses the extensions, and its fault
abbrev pub IsFirstUnfit : LimitsValue → List ExtensionMessage → List FilterValue → RefusalCause → Type 0
IsFirstUnfit limits xs fs r = (place : ℕ) × (r.filter ≡ Some place)
    × FirstAt (RefusesNothing limits xs) (λ f. Unfit limits xs f r.fault r.message.now) place fs

-- the policies that the response gives each filter, or the refusal
abbrev pub IsJudged : ConfigValue → ResponseMessage → Judged → Type 0
IsJudged c response (judged.Given given) =
    (response.type_url ≡ extension_type)
    × (extensions : List ExtensionMessage) × AllZip IsResource response.resources extensions
    × AllZip (λ f. Gives c.limits f (named f.name extensions)) c.filters (policies_view given.items)
IsJudged c response (judged.Refused r) = IsRefusedAs c response r.fault r.filter r.message.now

-- `P` holds of the refusal, or `M` holds if memory ran out outside of an admission
abbrev pub MatchNotAccepted : (RefusalCause → Type 0) → Type 0 → NotAccepted → Type 0
MatchNotAccepted P M (not_accepted.Refused r) = P r
MatchNotAccepted P M not_accepted.NoMemory = M

-- the response or one of its resources is wrong, with this refusal
abbrev pub IsWholeRefused : Refusal → NotAccepted → Type 0
IsWholeRefused refusal e = MatchNotAccepted (IsWhole refusal) ⊥ e

-- where memory may run out outside of an admission: the response has the right type. Its resources read up to one of
-- the right type, or all read and some filter, and each before it, refuses nothing
pub data RunsOut (c : ConfigValue) (response : ResponseMessage) : Type 0 where
  reading : response.type_url ≡ extension_type
      → FirstOf Reads (λ any. any.type_url ≡ extension_type) response.resources → RunsOut c response
  taking : (xs : List ExtensionMessage) → response.type_url ≡ extension_type
      → AllZip IsResource response.resources xs
      → FirstOf (RefusesNothing c.limits xs) (RefusesNothing c.limits xs) c.filters → RunsOut c response

-- what is judged like this: what a response gives, or its refusal
abbrev pub given_of : Judged → Result (Vec (Option Admitted) Global) NotAccepted
given_of (judged.Given given) = Ok given
given_of (judged.Refused r) = Err (not_accepted.Refused r)

-- the filter with this name and this budget
abbrev pub filter_of : List ℕ → Budget → FilterValue
filter_of name budget = record { name = name; budget = budget }
