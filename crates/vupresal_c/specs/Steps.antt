-- Events of a proxy's core for C (this project's own): what each gives, and what the handle holds after it.
use Rattle.std.specs.Prelude.{◌≡◌, ◌⊎◌, ℕ, ℤ, false, Option, Some, None, IsSomeAnd, length}
use Rattle.c_inputs.specs.Facts.{AreAccepted, AreInRange, AreTexts, facts_given}
use Rattle.c_inputs.specs.declared.facts.FactsInput.{FactsInput}
use Rattle.proxy_core.specs.Events.{EventValue, OutputValue, http_open, output_view}
use Rattle.proxy_core.specs.Proxies.{proxy_view}
use Rattle.proxy_core.specs.Step.{StepsBy, TakesNoMemory}
use Rattle.c_slots.specs.declared.proxy_slot.Core.{Core}
use Rattle.vupresal_c.specs.Statuses.{done, memory, status_of}
use Rattle.vupresal_c.specs.declared.fault.Fault.TheVariants.{BadFacts, Empty, OutOfRange}
use Rattle.vupresal_c.specs.declared.step.Given.{Given}

-- what C gets of an output
abbrev pub given_of : OutputValue → Given
given_of out = record {
  ads_length = length out.ads;
  http_length = length out.http;
  closes_ads = out.ads_close;
  closes_http = out.http_close;
}

-- nothing to send, and nothing to close
abbrev pub nothing_given : Given
nothing_given = record { ads_length = 0; http_length = 0; closes_ads = false; closes_http = false }

-- the handle holds the same as before, and nothing is to be done
abbrev pub Stays : Option Core → Given → Option Core → Type 0
Stays None given new = (given ≡ nothing_given) × (new ≡ None)
Stays (Some old) given new = (given ≡ nothing_given) × IsSomeAnd new (λ core.
    (proxy_view core.proxy ≡ proxy_view old.proxy) × (core.output ≡ old.output))

-- the core takes the event, and keeps its output
abbrev pub Takes : Core → EventValue → Given → Core → Type 0
Takes old event given new =
    StepsBy (proxy_view old.proxy) event (output_view new.output) (proxy_view new.proxy)
    × (given ≡ given_of (output_view new.output))

-- the effect of an event: the core takes it, or memory ran out; an empty handle stays empty
abbrev pub StepsTo : Option Core → EventValue → ℤ → Given → Option Core → Type 0
StepsTo None event status given new = (status ≡ status_of Empty) × Stays None given new
StepsTo (Some old) event status given new =
    ((status ≡ done) × IsSomeAnd new (Takes old event given))
    ⊎ ((status ≡ status_of memory) × (TakesNoMemory (proxy_view old.proxy) event → ⊥) × Stays (Some old) given new)

-- the effect of the opening of a connection: that of the event, unless its facts are at fault, or memory ran out
-- before. An empty handle stays empty, whatever the facts are
abbrev pub OpensFrom : Option Core → ℕ → FactsInput → ℤ → Given → Option Core → Type 0
OpensFrom None number facts status given new = (status ≡ status_of Empty) × Stays None given new
OpensFrom (Some old) number facts status given new =
    (AreAccepted facts × StepsTo (Some old) (http_open number (facts_given facts)) status given new)
    ⊎ ((status ≡ status_of BadFacts) × (AreTexts facts → ⊥) × Stays (Some old) given new)
    ⊎ ((status ≡ status_of OutOfRange) × (AreInRange facts → ⊥) × Stays (Some old) given new)
    ⊎ ((status ≡ status_of memory) × Stays (Some old) given new)
