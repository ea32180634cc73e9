-- An outcome as a JSON object (RFC 8259), whose members are in ascending order of their names.
use Rattle.std.specs.Prelude.{ℕ, List, true, Option, Some, None, codes, option_map, string_bytes}
use Rattle.http_front.specs.Head.{fault_status}
use Rattle.http_front.specs.declared.fault.HeadFault.{HeadFault}
use Rattle.proto_wire.specs.Refusal.{name_of, number_of}
use Rattle.proto_wire.specs.declared.refusal.Refusal.{Refusal}
use Rattle.serde_json.specs.Data.{Data, null, boolean, number, unsigned, string, object, member, no_members}
use Rattle.rbac_judge.specs.Explain.{ReportedTrial, put_trials}
use Rattle.rbac_judge.specs.declared.json.Why.{Why}
use Rattle.rbac_judge.specs.declared.outcome.Outcome.{Outcome}
use Rattle.rbac_judge.specs.declared.outcome.Outcome.TheVariants as outcomes

-- the object of a policy that is admitted: its number of policies, and the greatest number of steps of its conditions
abbrev pub admitted_json : ℕ → ℕ → Data
admitted_json policies bound = object (member (codes "admitted") (boolean true)
    (member (codes "bound") (number (unsigned bound))
    (member (codes "policies") (number (unsigned policies)) no_members)))

-- the number of the policy that matched, or `null`
abbrev pub matched_json : Option ℕ → Data
matched_json (Some policy) = number (unsigned policy)
matched_json None = null

-- a text, or `null`
abbrev pub text_json : Option (List ℕ) → Data
text_json (Some text) = string text
text_json None = null

-- why an outcome is no verdict, as far as that is known: the cause, and the part of a policy that has the fault
pub record WhyValue : Type 0 where
  pub cause : Option (List ℕ)
  pub place : Option (List ℕ)

-- why, as the definitions have it
abbrev pub why_view : Why → WhyValue
why_view why =
    record { cause = option_map string_bytes why.cause; place = option_map string_bytes why.place }

-- neither a cause nor a part is known
abbrev pub no_cause : Why
no_cause = record { cause = None; place = None }

-- the object of a verdict: the name and the number of the policy that matched, and the trials, if there are any to show
abbrev pub verdict_json : List ℕ → Option (List ℕ) → Option ℕ → Option (List ReportedTrial) → Data
verdict_json word name matched reported = object (member (codes "name") (text_json name)
    (member (codes "policy") (matched_json matched)
    (put_trials reported (member (codes "verdict") (string word) no_members))))

-- the object of a policy that is refused
abbrev pub refused_json : WhyValue → Refusal → Data
refused_json why reason = object (member (codes "cause") (text_json why.cause)
    (member (codes "name") (string (name_of reason))
    (member (codes "place") (text_json why.place)
    (member (codes "refused") (number (unsigned (number_of reason))) no_members))))

-- the object of a head that has a fault
abbrev pub head_json : WhyValue → HeadFault → Data
head_json why fault = object (member (codes "cause") (text_json why.cause)
    (member (codes "head") (number (unsigned (fault_status fault))) no_members))

-- the object of a fault that stops a job: its words, and its cause
abbrev pub fault_json : List ℕ → List ℕ → Data
fault_json words cause =
    object (member (codes "cause") (string cause) (member (codes "error") (string words) no_members))

-- the object of an outcome. A verdict has the name of the policy that matched, and the trials, if there are any to
-- show. A refusal or a head's fault has its cause
abbrev pub json_of : Option (List ℕ) → Option (List ReportedTrial) → WhyValue → Outcome → Data
json_of name reported why (outcomes.Admitted policies bound) = admitted_json policies bound
json_of name reported why (outcomes.Allowed matched) = verdict_json (codes "allow") name matched reported
json_of name reported why (outcomes.Denied matched) = verdict_json (codes "deny") name matched reported
json_of name reported why outcomes.OutOfSteps = object (member (codes "out_of_steps") (boolean true)
    (member (codes "verdict") (string (codes "deny")) no_members))
json_of name reported why (outcomes.Refused reason) = refused_json why reason
json_of name reported why (outcomes.Fault fault) = head_json why fault
json_of name reported why outcomes.Memory = object (member (codes "memory") (boolean true) no_members)
