-- What is decided on a request that was made once is what is decided by its parts or its head; so is each fault.
use Rattle.std.proofs.Common.{◌≡◌, ℕ, List, Some, inr, subst, sym}
use Rattle.attributes.specs.Limits.{AreLimits, largest}
use Rattle.attributes.specs.Request.{RequestValue}
use Rattle.c_inputs.specs.Facts.{AreAccepted, facts_given}
use Rattle.c_inputs.specs.Requests.{parts_given}
use Rattle.c_inputs.specs.declared.facts.FactsInput.{FactsInput}
use Rattle.c_inputs.specs.declared.request.RequestInput.{RequestInput}
use Rattle.http_front.specs.Asks.{HasFault, HeadAsks}
use Rattle.http_front.specs.Parts.{PartsAsk, PartsFault}
use Rattle.http_front.specs.declared.fault.HeadFault.{HeadFault}
use Rattle.rbac_policy.specs.Admitted.{limits_view}
use Rattle.rbac_policy.specs.declared.filter.Admitted.{Admitted}
use Rattle.vupresal_c.specs.Decisions.{AsksByHead, AsksByParts, HeadFailsFor, IsDecision, PartsFailFor}
use Rattle.vupresal_c.specs.Kept.{AsksForHeld, FitsAsHead, RequestFailsFor}
use Rattle.vupresal_c.specs.Making.{HeadMakesNone, IsOfHead, IsOfParts, PartsMakeNone}
use Rattle.vupresal_c.specs.declared.decision.Decision.{Decision}
use Rattle.vupresal_c.specs.declared.fault.Fault.{Fault}
use Rattle.vupresal_c.specs.declared.fault.Fault.TheVariants.{Empty, OutOfRange, Refused, OutOfSteps, BadFacts, Unfinished, Head}
use Rattle.vupresal_c.proofs.MadeOnce.{fits_head, given_fault_within, head_fault_within, head_outside, head_within, parts_outside, parts_within}

module _ (request : RequestInput) (given : FactsInput) (a : Admitted) where
  pub decides_as_parts : (r : RequestValue) (d : Decision) → AreAccepted given → IsOfParts request (facts_given given) r
      → IsDecision (AsksForHeld (Some r)) a d → IsDecision (AsksByParts request given) a d
  decides_as_parts r d accepted of found =
      let it : RequestValue = found.0 in
      let same : it ≡ r = found.1.0 in
      let fits : FitsAsHead r (limits_view a) = subst (λ (q : RequestValue). FitsAsHead q (limits_view a)) same found.1.1 in
      let asks : PartsAsk (parts_given request) (limits_view a) (facts_given given) r =
      parts_within (parts_given request) largest (limits_view a) (facts_given given) r of.1 fits in
      (it, (accepted, of.0, subst (λ (q : RequestValue). PartsAsk (parts_given request) (limits_view a) (facts_given given) q) (sym same) asks), found.2)

  pub fails_as_parts : (r : RequestValue) (e : Fault) → IsOfParts request (facts_given given) r → RequestFailsFor a r e
      → PartsFailFor request given a e
  fails_as_parts r Empty of why = why
  fails_as_parts r OutOfRange of why = absurd why
  fails_as_parts r (Refused refusal) of why = why
  fails_as_parts r OutOfSteps of why = why
  fails_as_parts r BadFacts of why = absurd why
  fails_as_parts r Unfinished of why = why
  fails_as_parts r (Head fault) of why =
      inr (subst (λ (f : HeadFault). PartsFault (parts_given request) (limits_view a) (facts_given given) f) (sym why.0)
      (parts_outside (parts_given request) largest (limits_view a) (facts_given given) r of.1 why.1))

  pub unmade_fails_as_parts : (e : Fault) → AreLimits (limits_view a) → PartsMakeNone request (facts_given given) e
      → PartsFailFor request given a e
  unmade_fails_as_parts Empty are why = why
  unmade_fails_as_parts OutOfRange are why = inr why
  unmade_fails_as_parts (Refused refusal) are why = why
  unmade_fails_as_parts OutOfSteps are why = absurd why
  unmade_fails_as_parts BadFacts are why = absurd why
  unmade_fails_as_parts Unfinished are why = why
  unmade_fails_as_parts (Head fault) are why = given_fault_within (limits_view a) are (parts_given request) (facts_given given) fault why

module _ (head : List ℕ) (given : FactsInput) (a : Admitted) where
  pub decides_as_head : (r : RequestValue) (d : Decision) → AreAccepted given → IsOfHead head (facts_given given) r
      → IsDecision (AsksForHeld (Some r)) a d → IsDecision (AsksByHead head given) a d
  decides_as_head r d accepted of found =
      let it : RequestValue = found.0 in
      let same : it ≡ r = found.1.0 in
      let fits : FitsAsHead r (limits_view a) = subst (λ (q : RequestValue). FitsAsHead q (limits_view a)) same found.1.1 in
      let asks : HeadAsks head (limits_view a) (facts_given given) r =
      head_within head largest (limits_view a) (facts_given given) r of fits.0 in
      (it, (accepted, subst (λ (q : RequestValue). HeadAsks head (limits_view a) (facts_given given) q) (sym same) asks), found.2)

  pub fails_as_head : (r : RequestValue) (e : Fault) → IsOfHead head (facts_given given) r → RequestFailsFor a r e
      → HeadFailsFor head given a e
  fails_as_head r Empty of why = why
  fails_as_head r OutOfRange of why = absurd why
  fails_as_head r (Refused refusal) of why = why
  fails_as_head r OutOfSteps of why = why
  fails_as_head r BadFacts of why = absurd why
  fails_as_head r Unfinished of why = absurd why
  fails_as_head r (Head fault) of why =
      subst (λ (f : HeadFault). HasFault head (limits_view a) (facts_given given) f) (sym why.0)
      (head_outside head largest (limits_view a) (facts_given given) r of
      (λ within. why.1 (fits_head head largest (limits_view a) (facts_given given) r of within)))

  pub unmade_fails_as_head : (e : Fault) → AreLimits (limits_view a) → HeadMakesNone head (facts_given given) e
      → HeadFailsFor head given a e
  unmade_fails_as_head Empty are why = why
  unmade_fails_as_head OutOfRange are why = absurd why
  unmade_fails_as_head (Refused refusal) are why = why
  unmade_fails_as_head OutOfSteps are why = absurd why
  unmade_fails_as_head BadFacts are why = absurd why
  unmade_fails_as_head Unfinished are why = why
  unmade_fails_as_head (Head fault) are why = head_fault_within (limits_view a) are head (facts_given given) fault why
