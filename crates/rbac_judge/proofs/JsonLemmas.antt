-- The objects that are printed hold no floating-point number.
use Rattle.std.proofs.Common.{◌≡◌, ℕ, List, [], ◌∷◌, Option, Some, None, codes, false, map, refl}
use Rattle.http_front.specs.declared.fault.HeadFault.{HeadFault}
use Rattle.proto_wire.specs.declared.refusal.Refusal.{Refusal}
use Rattle.rbac_policy.specs.declared.reason.Reason.{Reason}
use Rattle.rbac_policy.specs.declared.reason.Reason.TheVariants.{NoPermission, NoPrincipal, Matches, ConditionFalse, ConditionFails, ConditionTrue}
use Rattle.serde_json.specs.Data.{string}
use Rattle.serde_json.specs.View.{items_of}
use Rattle.serde_json.specs.Written.{has_float, items_have_float}
use Rattle.rbac_judge.specs.Explain.{ReportedTrial, reason_json, trial_json}
use Rattle.rbac_judge.specs.Json.{WhyValue, head_json, json_of, refused_json, verdict_json}
use Rattle.rbac_judge.specs.declared.outcome.Outcome.{Outcome}
use Rattle.rbac_judge.specs.declared.outcome.Outcome.TheVariants as outcomes

causes_whole : (causes : List (List ℕ)) → items_have_float (items_of (map string causes)) ≡ false
causes_whole [] = refl
causes_whole (cause ∷ causes) = rw (causes_whole causes) refl

reason_whole : (t : ReportedTrial) (reason : Reason) → has_float (reason_json t reason) ≡ false
reason_whole t NoPermission = rw (causes_whole t.causes) refl
reason_whole t NoPrincipal = rw (causes_whole t.causes) refl
reason_whole t Matches = rw (causes_whole t.causes) refl
reason_whole t ConditionFalse = rw (causes_whole t.causes) refl
reason_whole t (ConditionFails e) = rw (causes_whole t.causes) refl
reason_whole t (ConditionTrue steps bound) = rw (causes_whole t.causes) refl

trials_whole : (reported : List ReportedTrial) → items_have_float (items_of (map trial_json reported)) ≡ false
trials_whole [] = refl
trials_whole (t ∷ reported) = rw (reason_whole t t.trial.reason, trials_whole reported) refl

-- nor does that of a verdict
verdict_whole : (word : List ℕ) (name : Option (List ℕ)) (matched : Option ℕ) (reported : Option (List ReportedTrial))
    → has_float (verdict_json word name matched reported) ≡ false
verdict_whole word None None None = refl
verdict_whole word None (Some number) None = refl
verdict_whole word (Some name) None None = refl
verdict_whole word (Some name) (Some number) None = refl
verdict_whole word None None (Some reported) = rw (trials_whole reported) refl
verdict_whole word None (Some number) (Some reported) = rw (trials_whole reported) refl
verdict_whole word (Some name) None (Some reported) = rw (trials_whole reported) refl
verdict_whole word (Some name) (Some number) (Some reported) = rw (trials_whole reported) refl

-- nor that of a refusal
refused_whole : (cause place : Option (List ℕ)) (reason : Refusal)
    → has_float (refused_json (record { cause = cause; place = place }) reason) ≡ false
refused_whole None None reason = refl
refused_whole None (Some place) reason = refl
refused_whole (Some cause) None reason = refl
refused_whole (Some cause) (Some place) reason = refl

-- nor that of a head
head_whole : (cause place : Option (List ℕ)) (fault : HeadFault)
    → has_float (head_json (record { cause = cause; place = place }) fault) ≡ false
head_whole None place fault = refl
head_whole (Some cause) place fault = refl

-- nor that of any outcome
pub outcome_whole : (name : Option (List ℕ)) (reported : Option (List ReportedTrial)) (why : WhyValue) (outcome : Outcome)
    → has_float (json_of name reported why outcome) ≡ false
outcome_whole name reported why (outcomes.Admitted policies bound) = refl
outcome_whole name reported why (outcomes.Allowed matched) = verdict_whole (codes "allow") name matched reported
outcome_whole name reported why (outcomes.Denied matched) = verdict_whole (codes "deny") name matched reported
outcome_whole name reported why outcomes.OutOfSteps = refl
outcome_whole name reported why (outcomes.Refused reason) = refused_whole why.cause why.place reason
outcome_whole name reported why (outcomes.Fault fault) = head_whole why.cause why.place fault
outcome_whole name reported why outcomes.Memory = refl
