-- What C gives: the protocol of a request, and why facts are those of no connection.
use Rattle.std.proofs.Common.{◌≡◌, ℕ, Option, Some, None, List, map, inl, inr, refl, sym, ap, ◌∙◌}
use Rattle.std.specs.Prelude.{unwrap_or}
use Rattle.attributes.specs.declared.protocol.Protocol.{Protocol}
use Rattle.attributes.specs.declared.protocol.Protocol.TheVariants.{Http11}
use Rattle.c_inputs.specs.Facts.{FactsFail}
use Rattle.c_inputs.specs.Requests.{HasProtocol, parts_given, protocol_given}
use Rattle.c_inputs.specs.declared.facts.FactsFault.{FactsFault}
use Rattle.c_inputs.specs.declared.facts.FactsFault.TheVariants as facts
use Rattle.c_inputs.specs.declared.facts.FactsInput.{FactsInput}
use Rattle.c_inputs.specs.declared.request.RequestInput.{RequestInput}
use Rattle.c_slots.specs.declared.proxy_slot.Core.{Core}
use Rattle.http_front.specs.Parts.{PartsValue, field_view}
use Rattle.rbac_policy.specs.declared.filter.Admitted.{Admitted}
use Rattle.vupresal_c.specs.Decisions.{HeadFailsFor, PartsFailFor}
use Rattle.vupresal_c.specs.Statuses.{of_facts, status_of}
use Rattle.vupresal_c.specs.Steps.{OpensFrom, Stays}
use Rattle.vupresal_c.specs.declared.step.Given.{Given}

-- the parts with this protocol
abbrev pub parts_with : RequestInput → Protocol → PartsValue
parts_with r protocol = record {
  method = r.method.now;
  target = r.target.now;
  protocol = protocol;
  fields = map field_view r.lines.now;
}

module _ (r : RequestInput) (protocol : Protocol) (given : protocol_given r ≡ Some protocol) where
  -- they are the parts that are given
  pub parts_are : parts_with r protocol ≡ parts_given r
  parts_are = ap (λ (p : Option Protocol). parts_with r (unwrap_or p Http11)) (sym given)

  -- and their protocol is one
  pub has_protocol : HasProtocol r
  has_protocol none = let clash : Some protocol ≡ None = sym given ∙ none in absurd cc

-- facts at fault give no decision
pub facts_fail_parts : (request : RequestInput) (given : FactsInput) (a : Admitted) (e : FactsFault)
    → FactsFail given e → PartsFailFor request given a (of_facts e)
facts_fail_parts request given a facts.NoText why = why
facts_fail_parts request given a facts.OutOfRange why = inl why
facts_fail_parts request given a facts.Memory why = refl

pub facts_fail_head : (head : List ℕ) (given : FactsInput) (a : Admitted) (e : FactsFault)
    → FactsFail given e → HeadFailsFor head given a (of_facts e)
facts_fail_head head given a facts.NoText why = why
facts_fail_head head given a facts.OutOfRange why = why
facts_fail_head head given a facts.Memory why = refl

-- and open no connection
pub facts_open_nothing : (old : Core) (number : ℕ) (given : FactsInput) (e : FactsFault) (out : Given) (new : Option Core)
    → FactsFail given e → Stays (Some old) out new → OpensFrom (Some old) number given (status_of (of_facts e)) out new
facts_open_nothing old number given facts.NoText out new why stays = inr (inl (refl, why, stays))
facts_open_nothing old number given facts.OutOfRange out new why stays = inr (inr (inl (refl, why, stays)))
facts_open_nothing old number given facts.Memory out new why stays = inr (inr (inr (refl, stays)))
